-- Two ascending lists, each with its letters among the other's, are equal.
use Rattle.std.proofs.Common.{ℕ, ◌+◌, ◌≤◌, ◌<◌, ◌≡◌, refl, sym, ap₂, List, [], ◌∷◌, inl, inr, ⊎_elim, arith}
use Rattle.intervals.specs.declared.Interval.{Interval}
use Rattle.intervals.specs.Interval.{interval, Covers, Ascending}
use Rattle.intervals.proofs.Order.{lt_or_le}
use Rattle.intervals.proofs.Shape.{covers_above}

abbrev Within : List Interval → List Interval → Type 0
Within is js = (x : ℕ) → Covers is x → Covers js x

module _ (n k lo lo' : ℕ) (i j : Interval) (is js : List Interval) (a : Ascending n k lo (i ∷ is)) (b : Ascending n k lo' (j ∷ js))
    (w : Within (i ∷ is) (j ∷ js)) where
  first_start : 0 < k → j.start ≤ i.start
  first_start p =
      covers_above n k i.start j.start (j ∷ js) (omega arith, b.1, b.2, b.3) (w i.start (inl (omega arith)))

  first_end : 0 < k → i.start ≡ j.start → i.end ≤ j.end
  first_end p q =
      ⊎_elim
      (λ gt. absurd
      (⊎_elim (λ c. omega arith) (λ c. omega (arith, covers_above n k j.end (j.end + 1) js b.3 c))
      (w j.end (inl (omega arith)))))
      (λ le. le)
      (lt_or_le j.end i.end)

  others_within : i.end ≡ j.end → Within is js
  others_within q x h =
      let g = covers_above n k x (i.end + 1) is a.3 h in
      ⊎_elim (λ c. absurd (omega arith)) (λ c. c) (w x (inr h))

pub unique : (n k lo lo' : ℕ) (is js : List Interval) → 0 < k → Ascending n k lo is → Ascending n k lo' js
    → ((x : ℕ) → Covers is x → Covers js x) → ((x : ℕ) → Covers js x → Covers is x) → is ≡ js
unique n k lo lo' [] [] p a b v w = refl
unique n k lo lo' [] (j ∷ js) p a b v w = absurd (w j.start (inl (omega arith)))
unique n k lo lo' (i ∷ is) [] p a b v w = absurd (v i.start (inl (omega arith)))
unique n k lo lo' (i ∷ is) (j ∷ js) p a b v w =
    let l = first_start n k lo lo' i j is js a b v p in
    let m = first_start n k lo' lo j i js is b a w p in
    let q : i.start ≡ j.start = omega arith in
    let l₂ = first_end n k lo lo' i j is js a b v p q in
    let m₂ = first_end n k lo' lo j i js is b a w p (sym q) in
    let q₂ : i.end ≡ j.end = omega arith in
    ap₂ (λ (h : Interval) (t : List Interval). h ∷ t) (ap₂ interval q q₂)
    (unique n k (i.end + 1) (j.end + 1) is js p a.3 b.3 (others_within n k lo lo' i j is js a b v q₂)
    (others_within n k lo' lo j i js is b a w (sym q₂)))
