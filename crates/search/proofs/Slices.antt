-- The candidates that a slice of records holds: how many, which, and one more.
use Rattle.std.proofs.Common.{◌≡◌, refl, sym, ap, ap₂, ◌∙◌, List, [], ◌∷◌, ◌++◌, ◌≢◌, ◌⊎◌, inl, inr, ℕ, zero, suc, ◌+◌, ◌<◌, ◌≤◌, eq-or-lt_of_le, add-one, arith, length, get_or, set, take, length-append, get_or-set_same, get_or-set_other, get_or-take}
use lib.ListN.{get_or-append}
use lib.Seq.{get_or_at}
use Rattle.scans.specs.declared.ForwardPosition.{ForwardPosition}
use Rattle.scans.specs.Scans.{Candidate, no_candidate}
use Rattle.search.specs.Terms.Search.{candidate_of, no_position, candidates_in}

pub candidates_length : (n : ℕ) (records : List ForwardPosition) → length (candidates_in n records) ≡ n
unfolding candidates_in
candidates_length zero records = refl
candidates_length (suc n) records = length-append (candidates_in n records) (candidate_of (get_or records n no_position) ∷ []) ∙ omega (arith, candidates_length n records)

pub candidates_at : (n : ℕ) (records : List ForwardPosition) (j : ℕ) → j < n → get_or (candidates_in n records) j no_candidate ≡ candidate_of (get_or records j no_position)
unfolding candidates_in
candidates_at zero records j h = absurd (let b : ⊥ = omega arith in b)
candidates_at (suc n) records j h = go (eq-or-lt_of_le (let l : j ≤ n = omega arith in l)) (candidates_at n records j)
  where
    go : (j ≡ n) ⊎ (j < n) → (j < n → get_or (candidates_in n records) j no_candidate ≡ candidate_of (get_or records j no_position))
        → get_or (candidates_in n records ++ candidate_of (get_or records n no_position) ∷ []) j no_candidate ≡ candidate_of (get_or records j no_position)
    go (inl e) later =
        get_or_at (candidates_in n records) (candidate_of (get_or records n no_position)) [] no_candidate j (candidates_length n records ∙ sym e)
        ∙ ap (λ (z : ℕ). candidate_of (get_or records z no_position)) (sym e)
    go (inr l) later = get_or-append (candidates_in n records) (candidate_of (get_or records n no_position) ∷ []) no_candidate j (omega (arith, candidates_length n records)) ∙ later l

-- The front of the slice holds them too.
pub candidates_front : (n m : ℕ) (records : List ForwardPosition) → n ≤ m → candidates_in n (take m records) ≡ candidates_in n records
unfolding candidates_in
candidates_front zero m records h = refl
candidates_front (suc n) m records h =
    ap₂ (λ (l : List Candidate) (x : ForwardPosition). l ++ candidate_of x ∷ []) (candidates_front n m records (omega arith)) (get_or-take m records n no_position (omega arith))

-- A store past them leaves them alone.
candidates_kept : (n m : ℕ) (records : List ForwardPosition) (c : ForwardPosition) → n ≤ m → candidates_in n (set records m c) ≡ candidates_in n records
unfolding candidates_in
candidates_kept zero m records c h = refl
candidates_kept (suc n) m records c h =
    ap₂ (λ (l : List Candidate) (x : ForwardPosition). l ++ candidate_of x ∷ []) (candidates_kept n m records c (omega arith)) (get_or-set_other records m n c no_position (let d : n ≢ m = omega arith in d))

pub candidates_push : (n : ℕ) (records : List ForwardPosition) (c : ForwardPosition) → n < length records → candidates_in (n + 1) (set records n c) ≡ candidates_in n records ++ candidate_of c ∷ []
unfolding candidates_in
candidates_push n records c h =
    ap (λ (z : ℕ). candidates_in z (set records n c)) (add-one n)
    ∙ ap₂ (λ (l : List Candidate) (x : ForwardPosition). l ++ candidate_of x ∷ []) (candidates_kept n n records c (omega arith)) (get_or-set_same records n c no_position h)
