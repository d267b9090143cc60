-- Lines cut from the front of letters, run by run.
use Rattle.std.proofs.Common.{◌≡◌, ℕ, zero, suc, ◌+◌, ◌-◌, ◌<◌, ◌≤◌, min, List, [], ◌∷◌, ◌++◌, map, length, take, drop, get_or, replicate, refl, sym, ap, ap₂, ◌∙◌, arith, append_assoc, append-nil, drop-cons, take_all, drop_of_length-le, length-take, length-drop}
use Rattle.buffers.specs.Fill.{put}
use Rattle.report.specs.Ascii.{ascii}
use Rattle.intervals.specs.declared.Interval.{Interval}
use Rattle.masked_copy.specs.declared.Masking.{Masking}
use Rattle.masked_copy.specs.Copy.{copy_of}
use Rattle.masked_copy.proofs.Copying.{copy_length}
use Rattle.entries.specs.declared.held.LineRun.{LineRun}
use Rattle.entries.specs.declared.held.HeldEntry.{HeldEntry}
use Rattle.entries.specs.Held.{lengths_of, cut, entry_of}
use Rattle.entries.proofs.Kept.{joined_cut}
use Rattle.forms.specs.Each.{each}
use Rattle.forms.specs.Fasta.{ended, plain_fasta, masked_lines, masked_fasta}
use Rattle.forms.specs.Terms.Runs.{left, line_at, no_run, left_after, run_at}

-- ---- A run.
left_first : (k n : ℕ) (xs : List ℕ) → left (suc k) n xs ≡ left k n (drop n xs)
unfolding left
left_first zero n xs = refl
left_first (suc k) n xs = ap (λ (l : List ℕ). drop n l) (left_first k n xs)

each_first : (f g : ℕ → List ℕ) (k : ℕ) → ((i : ℕ) → f (suc i) ≡ g i) → each f (suc k) ≡ f 0 ++ each g k
unfolding each
each_first f g zero e = sym (append-nil (f 0))
each_first f g (suc k) e = ap₂ (λ (x y : List ℕ). x ++ y) (each_first f g k e) (e k) ∙ append_assoc (f 0) (each g k) (g k)

pub run_cut : (k n : ℕ) (ns xs : List ℕ) → ended (cut (replicate k n ++ ns) xs) ≡ each (line_at n xs) k ++ ended (cut ns (left k n xs))
unfolding each left ended cut
run_cut zero n ns xs = refl
run_cut (suc k) n ns xs =
    more_line n xs (cut (replicate k n ++ ns) (drop n xs))
    ∙ ap (λ (l : List ℕ). (take n xs ++ ascii "\n") ++ l) (run_cut k n ns (drop n xs))
    ∙ sym (append_assoc (take n xs ++ ascii "\n") (each (line_at n (drop n xs)) k) (ended (cut ns (left k n (drop n xs)))))
    ∙ ap₂ (λ (x y : List ℕ). x ++ ended (cut ns y))
    (sym (each_first (line_at n xs) (line_at n (drop n xs)) k (λ i. ap (λ (l : List ℕ). take n l ++ ascii "\n") (left_first i n xs)))) (sym (left_first k n xs))
  where
    more_line : (n : ℕ) (xs : List ℕ) (ls : List (List ℕ)) → ended (take n xs ∷ ls) ≡ (take n xs ++ ascii "\n") ++ ended ls
    more_line n xs ls = refl

pub left_none : (n : ℕ) (xs : List ℕ) → left 0 n xs ≡ xs
unfolding left
left_none n xs = refl

pub left_more : (k n : ℕ) (xs : List ℕ) → left (k + 1) n xs ≡ drop n (left k n xs)
unfolding left
left_more k n xs = ap (λ (i : ℕ). left i n xs) (let e : k + 1 ≡ suc k = omega arith in e)

take_nil : (m : ℕ) → take {A = ℕ} m [] ≡ []
take_nil zero = refl
take_nil (suc m) = refl

drop_nil : (m : ℕ) → drop {A = ℕ} m [] ≡ []
drop_nil zero = refl
drop_nil (suc m) = refl

-- At most what there is.
take_most : (n : ℕ) (xs : List ℕ) → take (min n (length xs)) xs ≡ take n xs
take_most zero xs = ap (λ (m : ℕ). take m xs) (let e : min 0 (length xs) ≡ 0 = omega arith in e)
take_most (suc n) [] = take_nil (min (suc n) 0) ∙ sym (take_nil (suc n))
take_most (suc n) (x ∷ xs) = ap (λ (m : ℕ). take m (x ∷ xs)) (let e : min (suc n) (length (x ∷ xs)) ≡ suc (min n (length xs)) = omega arith in e) ∙ ap (λ (l : List ℕ). x ∷ l) (take_most n xs)

drop_most : (n : ℕ) (xs : List ℕ) → drop (min n (length xs)) xs ≡ drop n xs
drop_most zero xs = ap (λ (m : ℕ). drop m xs) (let e : min 0 (length xs) ≡ 0 = omega arith in e)
drop_most (suc n) [] = drop_nil (min (suc n) 0) ∙ sym (drop_nil (suc n))
drop_most (suc n) (x ∷ xs) = ap (λ (m : ℕ). drop m (x ∷ xs)) (let e : min (suc n) (length (x ∷ xs)) ≡ suc (min n (length xs)) = omega arith in e) ∙ drop_most n xs

module _ (n m : ℕ) (xs : List ℕ) (e : m ≡ min n (length xs)) where
  pub taken : take m xs ≡ take n xs
  taken = ap (λ (i : ℕ). take i xs) e ∙ take_most n xs

  pub dropped : take (length xs - m) (drop m xs) ≡ drop n xs
  dropped = take_all (length xs - m) (drop m xs) (omega (arith, length-drop m xs)) ∙ ap (λ (i : ℕ). drop i xs) e ∙ drop_most n xs

-- ---- All runs.
module _ (runs : List LineRun) (xs : List ℕ) where
  pub after_none : left_after runs xs 0 ≡ xs
  unfolding left_after
  after_none = refl

  pub after_more : (j : ℕ) → left_after runs xs (j + 1) ≡ left (get_or runs j no_run).lines (get_or runs j no_run).letters (left_after runs xs j)
  unfolding left_after
  after_more j = ap (λ (i : ℕ). left_after runs xs i) (let e : j + 1 ≡ suc j = omega arith in e)

  so_far : (j : ℕ) → j ≤ length runs → ended (cut (lengths_of runs) xs) ≡ each (run_at runs xs) j ++ ended (cut (lengths_of (drop j runs)) (left_after runs xs j))
  unfolding each left_after lengths_of
  so_far zero h = refl
  so_far (suc j) h =
      let r : LineRun = get_or runs j no_run in
      so_far j (omega arith)
      ∙ ap (λ (qs : List LineRun). each (run_at runs xs) j ++ ended (cut (lengths_of qs) (left_after runs xs j))) (drop-cons runs j no_run (omega arith))
      ∙ ap (λ (l : List ℕ). each (run_at runs xs) j ++ l) (run_cut r.lines r.letters (lengths_of (drop (suc j) runs)) (left_after runs xs j))
      ∙ sym (append_assoc (each (run_at runs xs) j) (run_at runs xs j) (ended (cut (lengths_of (drop (suc j) runs)) (left_after runs xs (suc j)))))

  pub all_runs : ended (cut (lengths_of runs) xs) ≡ each (run_at runs xs) (length runs) ++ ended (cut [] (left_after runs xs (length runs)))
  unfolding lengths_of
  all_runs =
      so_far (length runs) (omega arith)
      ∙ ap (λ (qs : List LineRun). each (run_at runs xs) (length runs) ++ ended (cut (lengths_of qs) (left_after runs xs (length runs)))) (let h : length runs ≤ length runs = omega arith in drop_of_length-le runs h)

pub rest_none : (xs : List ℕ) → length xs ≡ 0 → ended (cut [] xs) ≡ []
unfolding ended cut
rest_none [] h = refl
rest_none (x ∷ xs) h = absurd (let z : ⊥ = omega arith in z)

pub rest_line : (xs : List ℕ) → 0 < length xs → ended (cut [] xs) ≡ xs ++ ascii "\n"
unfolding ended cut
rest_line [] h = absurd (let z : ⊥ = omega arith in z)
rest_line (x ∷ xs) h = append-nil ((x ∷ xs) ++ ascii "\n")

-- ---- An entry.
recut : (ns xs ys : List ℕ) → length ys ≡ length xs → cut (map (λ l. length l) (cut ns xs)) ys ≡ cut ns ys
unfolding cut
recut [] [] [] e = refl
recut [] [] (y ∷ ys) e = absurd (let z : ⊥ = omega arith in z)
recut [] (x ∷ xs) [] e = absurd (let z : ⊥ = omega arith in z)
recut [] (x ∷ xs) (y ∷ ys) e =
    ap₂ (λ (a b : List ℕ). a ∷ cut [] b) (take_all (length (x ∷ xs)) (y ∷ ys) (omega arith)) (let h : length (y ∷ ys) ≤ length (x ∷ xs) = omega arith in drop_of_length-le (y ∷ ys) h)
recut (n ∷ ns) xs ys e =
    let m : length (take n xs) ≡ min n (length ys) = length-take n xs ∙ (let z : min n (length xs) ≡ min n (length ys) = omega arith in z) in
    ap₂ (λ (a b : List ℕ). a ∷ cut (map (λ l. length l) (cut ns (drop n xs))) b)
    (ap (λ (i : ℕ). take i ys) m ∙ take_most n ys) (ap (λ (i : ℕ). drop i ys) m ∙ drop_most n ys)
    ∙ ap (λ (ls : List (List ℕ)). take n ys ∷ ls) (recut ns (drop n xs) (drop n ys) (omega (arith, length-drop n xs, length-drop n ys)))

module _ (m : Masking) (h : HeldEntry) (is : List Interval) (header letters copy : List ℕ) (runs : List LineRun)
    (header_is : header ≡ h.header.items) (letters_are : letters ≡ h.letters.items) (runs_are : runs ≡ h.runs.items) (copy_is : copy ≡ copy_of m is letters) where
  abbrev ns : List ℕ
  ns = lengths_of h.runs.items

  lines_are : cut (lengths_of runs) copy ≡ masked_lines m (entry_of h) is
  lines_are =
      let s : List ℕ = h.letters.items in
      ap₂ (λ (rs : List LineRun) (l : List ℕ). cut (lengths_of rs) l) runs_are (copy_is ∙ ap (λ (l : List ℕ). copy_of m is l) letters_are)
      ∙ sym (recut ns s (copy_of m is s) (copy_length m is s))
      ∙ ap (λ (l : List ℕ). cut (map (λ x. length x) (cut ns s)) (copy_of m is l)) (sym (joined_cut ns s))

  pub fasta_is : (header ++ ascii "\n") ++ ended (cut (lengths_of runs) copy) ≡ masked_fasta m (entry_of h) is
  unfolding masked_fasta
  fasta_is = ap₂ (λ (x : List ℕ) (ls : List (List ℕ)). (x ++ ascii "\n") ++ ended ls) header_is lines_are

pub plain_is : (h : HeldEntry) (header letters : List ℕ) (runs : List LineRun) → header ≡ h.header.items → letters ≡ h.letters.items → runs ≡ h.runs.items
    → (header ++ ascii "\n") ++ ended (cut (lengths_of runs) letters) ≡ plain_fasta (entry_of h)
unfolding plain_fasta
plain_is h header letters runs p q r = rw (p, q, r) refl

pub put_whole : (xs d : List ℕ) → length xs ≡ length d → put xs d ≡ xs
put_whole xs d e = ap (λ (l : List ℕ). xs ++ l) (drop_of_length-le d (omega arith)) ∙ append-nil xs
