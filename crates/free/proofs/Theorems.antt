-- What the free stretches promise: nothing is lost, nothing is too near.
use Rattle.std.proofs.Common.{◌≡◌, ℕ, ◌+◌, ◌-◌, ◌≤◌, ◌<◌, Bool, true, false, ◌&&◌, ◌||◌, List, [], ◌∷◌, length, leb, ltb, ◌⊎◌, inl, inr, ⊎_elim, ◌↔◌, refl, arith, true≢false, sym, ◌∙◌}
use Rattle.std.proofs.lemmas.Bool.Decides.{nat_tests}
use Rattle.intervals.specs.declared.Interval.{Interval}
use Rattle.intervals.specs.Interval.{Holds, Covers, Ascending, Canonical}
use Rattle.intervals.proofs.Order.{lt_or_le}
use Rattle.join.proofs.Stretches.{stretches_canonical, stretches_covers}
use Rattle.free.specs.Free.{near, is_free, free}

module _ (pad : ℕ) (regions mask : List Interval) (s : List ℕ) where
  -- The stretches are a list of the usual kind.
  pub free_usual : Canonical (length s) 1 (free pad regions mask s)
  unfolding free
  free_usual = stretches_canonical (is_free pad regions mask s) (length s)

  -- A letter is in a stretch just where it is free: so each stretch is as long as can be, and none is missing.
  pub free_letters : (x : ℕ) → Covers (free pad regions mask s) x ↔ ((x < length s) × (is_free pad regions mask s x ≡ true))
  unfolding free
  free_letters x = stretches_covers (is_free pad regions mask s) (length s) x

-- ---- A letter is near a list where it is at most `pad` letters away from one of the list.
module _ (pad x : ℕ) where
  abbrev hit : Interval → Bool
  hit i = leb i.start (x + pad) && ltb x (i.end + pad)

  or_either : (a b : Bool) → (a || b) ≡ true → (a ≡ true) ⊎ (b ≡ true)
  or_either true b h = inl refl
  or_either false b h = inr h

  or_left : (a b : Bool) → a ≡ true → (a || b) ≡ true
  or_left true b h = refl
  or_left false b h = absurd (true≢false (sym h))

  or_right : (a b : Bool) → b ≡ true → (a || b) ≡ true
  or_right true b h = refl
  or_right false b h = h

  hit_bounds : (i : Interval) → hit i ≡ true → (i.start ≤ x + pad) × (x < i.end + pad)
  hit_bounds i h = (grind (arith, nat_tests), grind (arith, nat_tests))

  hit_within : (i : Interval) → i.start ≤ x + pad → x < i.end + pad → hit i ≡ true
  hit_within i h l = grind (arith, nat_tests)

  -- The nearest letter of an interval.
  nearest : (i : Interval) → i.start + 1 ≤ i.end → hit i ≡ true → (y : ℕ) × Holds i y × (x ≤ y + pad) × (y ≤ x + pad)
  nearest i n h =
      let b = hit_bounds i h in
      ⊎_elim
      (λ lt. (i.start, (omega arith, omega arith), omega arith, b.0))
      (λ ge. ⊎_elim
      (λ lt. (x, (ge, lt), omega arith, omega arith))
      (λ le. (i.end - 1, (omega arith, omega arith), omega (arith, b.1), omega arith))
      (lt_or_le x i.end))
      (lt_or_le x i.start)

  pub near_reaches : (n lo : ℕ) (is : List Interval) → Ascending n 1 lo is → near pad is x ≡ true → (y : ℕ) × Covers is y × (x ≤ y + pad) × (y ≤ x + pad)
  unfolding near
  near_reaches n lo [] a h = absurd (true≢false (sym h))
  near_reaches n lo (i ∷ is) a h =
      ⊎_elim
      (λ t. let z = nearest i a.1 t in (z.0, inl z.1, z.2, z.3))
      (λ t. let z = near_reaches n (i.end + 1) is a.3 t in (z.0, inr z.1, z.2, z.3))
      (or_either (hit i) (near pad is x) h)

  pub reaches_near : (is : List Interval) (y : ℕ) → Covers is y → x ≤ y + pad → y ≤ x + pad → near pad is x ≡ true
  unfolding near
  reaches_near [] y c h l = absurd c
  reaches_near (i ∷ is) y c h l =
      ⊎_elim
      (λ t. or_left (hit i) (near pad is x) (hit_within i (omega (arith, t)) (omega (arith, t))))
      (λ t. or_right (hit i) (near pad is x) (reaches_near is y t h l))
      c
