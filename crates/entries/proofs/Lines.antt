-- A line more: its bytes, and the lines after it.
use Rattle.std.proofs.Common.{◌≡◌, ℕ, ◌+◌, ◌-◌, ◌<◌, ◌≤◌, Bool, true, false, cond, eqb, List, [], ◌∷◌, ◌++◌, map, length, take, drop, get_or, refl, sym, ap, ap₂, ◌∙◌, arith, append_assoc, take_all, length-append, eqb-true, eq-eqb, ne_eqb, ◌≢◌}
use Rattle.std.proofs.lemmas.List.{take_more}
use Rattle.std.specs.Io.BufRead.{take_through, drop_through}
use Rattle.fasta.specs.Lines.{onto, lines, opens}
use Rattle.entries.specs.Lines.{dropped, chomped, file_lines}

pub by_test : {G : Type 0} (b : Bool) → (b ≡ true → G) → (b ≡ false → G) → G
by_test true f g = f refl
by_test false f g = g refl

-- ---- The last byte.
dropped_cons : (b x : ℕ) (xs : List ℕ) → 0 < length xs → dropped b (x ∷ xs) ≡ x ∷ dropped b xs
dropped_cons b x [] h = absurd (let z : ⊥ = omega arith in z)
dropped_cons b x (y ∷ xs) h = refl

snoc_long : (x : ℕ) (xs : List ℕ) → 0 < length (xs ++ x ∷ [])
snoc_long x [] = omega arith
snoc_long x (y ∷ xs) = omega arith

dropped_snoc : (b x : ℕ) (xs : List ℕ) → dropped b (xs ++ x ∷ []) ≡ cond (eqb x b) xs (xs ++ x ∷ [])
dropped_snoc b x [] = refl
dropped_snoc b x (y ∷ xs) =
    dropped_cons b y (xs ++ x ∷ []) (snoc_long x xs)
    ∙ ap (λ (l : List ℕ). y ∷ l) (dropped_snoc b x xs)
    ∙ go (eqb x b)
  where
    go : (t : Bool) → y ∷ cond t xs (xs ++ x ∷ []) ≡ cond t (y ∷ xs) (y ∷ (xs ++ x ∷ []))
    go true = refl
    go false = refl

-- The bytes `line`, their first `from` apart, without the last byte if it is b.
module _ (line front xs : List ℕ) (from b : ℕ) (is : line ≡ front ++ xs) (e : length front ≡ from) where
  long : length line ≡ from + length xs
  long = ap (λ (l : List ℕ). length l) is ∙ length-append front xs ∙ ap (λ (n : ℕ). n + length xs) e

  nil : (ys : List ℕ) → length ys ≡ 0 → ys ≡ []
  nil [] h = refl
  nil (y ∷ ys) h = absurd (let z : ⊥ = omega arith in z)

  pub drop_none : length line ≤ from → line ≡ front ++ dropped b xs
  drop_none h =
      let none : xs ≡ [] = nil xs (omega (arith, long)) in
      is ∙ ap (λ (l : List ℕ). front ++ l) (none ∙ sym (ap (λ (l : List ℕ). dropped b l) none))

  module _ (n : ℕ) (m : n ≡ length line) (h : from < n) where
    abbrev init : List ℕ
    init = take (n - 1) line

    split : line ≡ init ++ get_or line (n - 1) 0 ∷ []
    split = sym (take_all (n - 1 + 1) line (omega arith)) ∙ take_more line (n - 1) 0 (omega arith)

    abbrev last : ℕ
    last = length xs - 1

    split_xs : xs ≡ take last xs ++ get_or xs last 0 ∷ []
    split_xs = sym (take_all (last + 1) xs (omega (arith, long))) ∙ take_more xs last 0 (omega (arith, long))

    whole : line ≡ (front ++ take last xs) ++ get_or xs last 0 ∷ []
    whole = is ∙ ap (λ (l : List ℕ). front ++ l) split_xs ∙ sym (append_assoc front (take last xs) (get_or xs last 0 ∷ []))

    same_end : (ls bs : List ℕ) (a c : ℕ) → ls ++ a ∷ [] ≡ bs ++ c ∷ [] → (ls ≡ bs) × (a ≡ c)
    same_end [] [] a c q = (refl, ap (λ (l : List ℕ). get_or l 0 0) q)
    same_end [] (y ∷ bs) a c q = absurd (let z : ⊥ = omega (arith, ap (λ (l : List ℕ). length l) q, snoc_long c bs) in z)
    same_end (x ∷ ls) [] a c q = absurd (let z : ⊥ = omega (arith, ap (λ (l : List ℕ). length l) q, snoc_long a ls) in z)
    same_end (x ∷ ls) (y ∷ bs) a c q =
        let r = same_end ls bs a c (ap (λ (l : List ℕ). drop 1 l) q) in
        (ap₂ (λ (u : ℕ) (v : List ℕ). u ∷ v) (ap (λ (l : List ℕ). get_or l 0 0) q) r.0, r.1)

    ends : (init ≡ front ++ take last xs) × (get_or line (n - 1) 0 ≡ get_or xs last 0)
    ends = same_end _ _ _ _ (sym split ∙ whole)

    dropped_is : dropped b xs ≡ cond (eqb (get_or line (n - 1) 0) b) (take last xs) xs
    dropped_is =
        ap (λ (l : List ℕ). dropped b l) split_xs
        ∙ dropped_snoc b (get_or xs last 0) (take last xs)
        ∙ ap₂ (λ (x : ℕ) (l : List ℕ). cond (eqb x b) (take last xs) l) (sym ends.1) (sym split_xs)

    pub drop_one : get_or line (n - 1) 0 ≡ b → take (n - 1) line ≡ front ++ dropped b xs
    drop_one t = ends.0 ∙ ap (λ (l : List ℕ). front ++ l) (sym (dropped_is ∙ ap (λ (v : Bool). cond v (take last xs) xs) (eq-eqb _ _ t)))

    pub drop_other : get_or line (n - 1) 0 ≢ b → line ≡ front ++ dropped b xs
    drop_other t = is ∙ ap (λ (l : List ℕ). front ++ l) (sym (dropped_is ∙ ap (λ (v : Bool). cond v (take last xs) xs) (ne_eqb _ _ t)))

-- ---- The first line.
through_cons : (x : ℕ) (xs : List ℕ) → 0 < length (take_through 10 (x ∷ xs))
through_cons x xs = go (eqb x 10)
  where
    go : (t : Bool) → 0 < length (cond t (x ∷ []) (x ∷ take_through 10 xs))
    go true = omega arith
    go false = omega arith

lines_first : (x : ℕ) (xs : List ℕ) → lines (x ∷ xs) ≡ dropped 10 (take_through 10 (x ∷ xs)) ∷ lines (drop_through 10 (x ∷ xs))
unfolding lines
lines_first x [] = go (eqb x 10) refl
  where
    go : (t : Bool) → eqb x 10 ≡ t → cond t ([] ∷ []) ((x ∷ []) ∷ []) ≡ dropped 10 (cond t (x ∷ []) (x ∷ [])) ∷ lines (cond t [] [])
    go true e = rw e refl
    go false e = rw e refl
lines_first x (y ∷ xs) = go (lines_first y xs) (eqb x 10) refl
  where
    go : lines (y ∷ xs) ≡ dropped 10 (take_through 10 (y ∷ xs)) ∷ lines (drop_through 10 (y ∷ xs)) → (t : Bool) → eqb x 10 ≡ t
        → cond t ([] ∷ lines (y ∷ xs)) (onto x (lines (y ∷ xs)))
        ≡ dropped 10 (cond t (x ∷ []) (x ∷ take_through 10 (y ∷ xs))) ∷ lines (cond t (y ∷ xs) (drop_through 10 (y ∷ xs)))
    go ih true e = rw e refl
    go ih false e =
        ap (λ (ls : List (List ℕ)). onto x ls) ih
        ∙ ap (λ (l : List ℕ). l ∷ lines (drop_through 10 (y ∷ xs))) (sym (dropped_cons 10 x (take_through 10 (y ∷ xs)) (through_cons y xs)))

-- The first line of a file that is not at its end.
abbrev pub first_line : Bool → List ℕ → List ℕ
first_line cr xs = chomped cr (dropped 10 (take_through 10 xs))

pub file_first : (cr : Bool) (xs : List ℕ) → 0 < length xs → file_lines cr xs ≡ first_line cr xs ∷ file_lines cr (drop_through 10 xs)
unfolding file_lines
file_first cr [] h = absurd (let z : ⊥ = omega arith in z)
file_first cr (x ∷ xs) h = ap (λ (ls : List (List ℕ)). map (λ l. chomped cr l) ls) (lines_first x xs)

-- It opens a record where the file does.
opens_dropped : (b : ℕ) → eqb b 62 ≡ false → (l : List ℕ) → opens (dropped b l) ≡ opens l
opens_dropped b h [] = refl
opens_dropped b h (x ∷ []) = go (eqb x b) refl
  where
    go : (t : Bool) → eqb x b ≡ t → opens (cond t [] (x ∷ [])) ≡ eqb x 62
    go true e = sym (ap (λ (y : ℕ). eqb y 62) (eqb-true x b e) ∙ h)
    go false e = refl
opens_dropped b h (x ∷ (y ∷ l)) = refl

opens_chomped : (cr : Bool) (l : List ℕ) → opens (chomped cr l) ≡ opens l
opens_chomped true l = opens_dropped 13 refl l
opens_chomped false l = refl

opens_through : (xs : List ℕ) → opens (take_through 10 xs) ≡ opens xs
opens_through [] = refl
opens_through (x ∷ xs) = go (eqb x 10)
  where
    go : (t : Bool) → opens (cond t (x ∷ []) (x ∷ take_through 10 xs)) ≡ eqb x 62
    go true = refl
    go false = refl

pub opens_first : (cr : Bool) (xs : List ℕ) → opens (first_line cr xs) ≡ opens xs
opens_first cr xs = opens_chomped cr (dropped 10 (take_through 10 xs)) ∙ opens_dropped 10 refl (take_through 10 xs) ∙ opens_through xs
