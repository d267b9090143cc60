-- The letters of a list whose intervals lie apart: those of the first and those of the others, and so the sum of their lengths.
use Rattle.std.proofs.Common.{ℕ, ◌+◌, ◌-◌, ◌<◌, ◌≡◌, sym, ap, ◌∙◌, inl, inr, ⊎_elim, List, [], ◌∷◌, arith}
use Rattle.std.specs.List.{sum_by}
use Rattle.std.proofs.lemmas.List.Sums.{sum_by-cons}
use Rattle.intervals.specs.declared.Interval.{Interval}
use Rattle.intervals.specs.Interval.{Holds, Covers, covered_in, Ascending, Canonical}
use Rattle.intervals.proofs.Shape.{covers_above}
use Rattle.intervals.proofs.Counted.{covered_all, covered_none, covered_split, covered_equal}

-- The first interval's letters, and those of the others.
pub covered_first : (n k lo : ℕ) (i : Interval) (is : List Interval) → Ascending n k lo (i ∷ is)
    → covered_in (i ∷ is) 0 n ≡ (i.end - i.start) + covered_in is 0 n
covered_first n k lo i is u =
    let s = i.start in
    let e = i.end in
    let later : (x : ℕ) → Covers is x → e < x = λ x c. let z = covers_above n k x (e + 1) is u.3 c in omega arith in
    let before = covered_none (i ∷ is) 0 s (λ x _ l c. ⊎_elim (λ (h : Holds i x). let b : ⊥ = omega arith in b) (λ (h : Covers is x). let z = later x h in let b : ⊥ = omega arith in b) c) in
    let own = covered_all (i ∷ is) s e (omega arith) (λ x l m. inl (l, m)) in
    let after =
    covered_equal (i ∷ is) is e n
    (λ x l _. (λ c. ⊎_elim (λ (h : Holds i x). absurd (let b : ⊥ = omega arith in b)) (λ (h : Covers is x). h) c, λ c. inr c)) in
    let others = covered_none is 0 e (λ x _ l c. let z = later x c in let b : ⊥ = omega arith in b) in
    omega (arith, covered_split (i ∷ is) 0 s n (omega arith) (omega arith), covered_split (i ∷ is) s e n (omega arith) (omega arith), covered_split is 0 e n (omega arith) (omega arith))

covered_sum : (n k lo : ℕ) (is : List Interval) → Ascending n k lo is → covered_in is 0 n ≡ sum_by (λ (i : Interval). i.end - i.start) is
covered_sum n k lo [] u = covered_none [] 0 n (λ x _ _ c. c)
covered_sum n k lo (i ∷ is) u =
    covered_first n k lo i is u
    ∙ ap (λ (m : ℕ). (i.end - i.start) + m) (covered_sum n k (i.end + 1) is u.3)
    ∙ sym (sum_by-cons (λ (i : Interval). i.end - i.start) i is)

-- The masked letters of a list of n letters, none of its intervals touching another, are the sum of its lengths.
pub covered_lengths : (n k : ℕ) (is : List Interval) → Canonical n k is → covered_in is 0 n ≡ sum_by (λ (i : Interval). i.end - i.start) is
covered_lengths n k is c = covered_sum n k 0 is c
