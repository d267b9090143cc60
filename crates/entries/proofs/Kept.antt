-- The lines that a reader's buffers hold.
use Rattle.std.proofs.Common.{◌≡◌, ℕ, ◌+◌, ◌-◌, min, take_all, arith, Bool, true, false, cond, not, ◌||◌, eqb, List, [], ◌∷◌, ◌++◌, map, length, take, drop, replicate, refl, sym, ap, ap₂, ◌∙◌, append_assoc, append-nil, take-append-drop}
use Rattle.std.proofs.lemmas.List.{replicate_more}
use Rattle.entries.specs.declared.held.LineRun.{LineRun}
use Rattle.std.specs.List.{prefix_len}
use native.Mathlib.Numerals.{one-add}
use Rattle.fasta.specs.Lines.{word, name_of}
use Rattle.entries.specs.Terms.Reading.{in_name}
use Rattle.entries.specs.Entries.{joined}
use Rattle.entries.specs.Held.{lengths_of, cut}

-- ---- Runs.
pub lengths_append : (rs qs : List LineRun) → lengths_of (rs ++ qs) ≡ lengths_of rs ++ lengths_of qs
unfolding lengths_of
lengths_append [] qs = refl
lengths_append (r ∷ rs) qs = ap (λ (l : List ℕ). replicate r.lines r.letters ++ l) (lengths_append rs qs) ∙ sym (append_assoc (replicate r.lines r.letters) (lengths_of rs) (lengths_of qs))

one_run : (r : LineRun) → lengths_of (r ∷ []) ≡ replicate r.lines r.letters
unfolding lengths_of
one_run r = append-nil (replicate r.lines r.letters)

snoc_run : (rs : List LineRun) (r : LineRun) → lengths_of (rs ++ r ∷ []) ≡ lengths_of rs ++ replicate r.lines r.letters
snoc_run rs r = lengths_append rs (r ∷ []) ∙ ap (λ (l : List ℕ). lengths_of rs ++ l) (one_run r)

-- A line as long as those of the run.
pub line_longer : (rs : List LineRun) (r next : LineRun) (n : ℕ) → next.lines ≡ r.lines + 1 → next.letters ≡ n → r.letters ≡ n
    → lengths_of (rs ++ next ∷ []) ≡ lengths_of (rs ++ r ∷ []) ++ n ∷ []
line_longer rs r next n l m e =
    snoc_run rs next
    ∙ ap₂ (λ (a b : ℕ). lengths_of rs ++ replicate a b) l (m ∙ sym e)
    ∙ ap (λ (z : List ℕ). lengths_of rs ++ z) (sym (replicate_more r.lines r.letters))
    ∙ sym (append_assoc (lengths_of rs) (replicate r.lines r.letters) (r.letters ∷ []))
    ∙ ap₂ (λ (z : List ℕ) (b : ℕ). z ++ b ∷ []) (sym (snoc_run rs r)) e

-- A line that begins a run.
pub line_other : (rs rs' : List LineRun) (r next : LineRun) (n : ℕ) → rs' ≡ rs ++ r ∷ [] → next.lines ≡ 1 → next.letters ≡ n
    → lengths_of (rs' ++ next ∷ []) ≡ lengths_of (rs ++ r ∷ []) ++ n ∷ []
line_other rs rs' r next n e l m =
    snoc_run rs' next
    ∙ ap₂ (λ (a b : ℕ). lengths_of rs' ++ replicate a b) l m
    ∙ ap (λ (z : List LineRun). lengths_of z ++ n ∷ []) e

-- ---- Lines.
front_is : (l xs : List ℕ) → take (length l) (l ++ xs) ≡ l
front_is [] xs = refl
front_is (x ∷ l) xs = ap (λ (m : List ℕ). x ∷ m) (front_is l xs)

rest_is : (l xs : List ℕ) → drop (length l) (l ++ xs) ≡ xs
rest_is [] xs = refl
rest_is (x ∷ l) xs = rest_is l xs

pub cut_joined : (ls : List (List ℕ)) → cut (map (λ l. length l) ls) (joined ls) ≡ ls
unfolding cut joined
cut_joined [] = refl
cut_joined (l ∷ ls) =
    ap₂ (λ (a : List ℕ) (b : List ℕ). a ∷ cut (map (λ m. length m) ls) b) (front_is l (joined ls)) (rest_is l (joined ls))
    ∙ ap (λ (z : List (List ℕ)). l ∷ z) (cut_joined ls)

-- Whatever the lengths, no letter is lost.
pub joined_cut : (ns xs : List ℕ) → joined (cut ns xs) ≡ xs
unfolding cut joined
joined_cut [] [] = refl
joined_cut [] (x ∷ xs) = append-nil (x ∷ xs)
joined_cut (n ∷ ns) xs = ap (λ (l : List ℕ). take n xs ++ l) (joined_cut ns (drop n xs)) ∙ take-append-drop n xs

pub joined_append : (ls ms : List (List ℕ)) → joined (ls ++ ms) ≡ joined ls ++ joined ms
unfolding joined
joined_append [] ms = refl
joined_append (l ∷ ls) ms = ap (λ (z : List ℕ). l ++ z) (joined_append ls ms) ∙ sym (append_assoc l (joined ls) (joined ms))

pub joined_more : (ls : List (List ℕ)) (l : List ℕ) → joined (ls ++ l ∷ []) ≡ joined ls ++ l
unfolding joined
joined_more ls l = joined_append ls (l ∷ []) ∙ ap (λ (z : List ℕ). joined ls ++ z) (append-nil l)

pub map_more : (ls : List (List ℕ)) (l : List ℕ) → map (λ m. length m) (ls ++ l ∷ []) ≡ map (λ m. length m) ls ++ length l ∷ []
map_more [] l = refl
map_more (m ∷ ls) l = ap (λ (z : List ℕ). length m ∷ z) (map_more ls l)

-- No line yet.
pub no_lines : (rs : List LineRun) (r : LineRun) → rs ≡ [] → r.lines ≡ 0 → lengths_of (rs ++ r ∷ []) ≡ []
unfolding lengths_of
no_lines rs r e z = snoc_run rs r ∙ ap₂ (λ (q : List LineRun) (n : ℕ). lengths_of q ++ replicate n r.letters) e z

-- ---- A name.
word_prefix : (l : List ℕ) → word l ≡ take (prefix_len in_name l) l
unfolding word
word_prefix [] = refl
word_prefix (b ∷ l) = go (word_prefix l) (eqb b 32 || eqb b 9)
  where
    go : word l ≡ take (prefix_len in_name l) l → (t : Bool) → cond t [] (b ∷ word l) ≡ take (cond (not t) (1 + prefix_len in_name l) 0) (b ∷ l)
    go ih true = refl
    go ih false = rw (one-add (prefix_len in_name l)) (ap (λ (m : List ℕ). b ∷ m) ih)

pub name_is : (header : List ℕ) (m n : ℕ) → m ≡ min (length header) 1 → n ≡ prefix_len in_name (take (length header - m) (drop m header))
    → take n (take (length header - m) (drop m header)) ≡ name_of header
unfolding word
name_is [] m n e p = rw (p, e) refl
name_is (b ∷ l) m n e p =
    let one : m ≡ 1 = e ∙ (let z : min (length (b ∷ l)) 1 ≡ 1 = omega arith in z) in
    let rest : take (length (b ∷ l) - m) (drop m (b ∷ l)) ≡ l =
    ap (λ (k : ℕ). take (length (b ∷ l) - k) (drop k (b ∷ l))) one ∙ take_all (length (b ∷ l) - 1) l (omega arith) in
    ap₂ (λ (k : ℕ) (z : List ℕ). take k z) (p ∙ ap (prefix_len in_name) rest) rest ∙ sym (word_prefix l)
