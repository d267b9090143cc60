-- The laws at binary64, in units of 2 ^ -1074: one rounding of a number of size at most 2 ^ M costs at most 2 ^ M * eps (`add64`, `sub64`, `mul_int64`),
-- and errors add up (`near_add`, `near_sub`, `count_add`, `count_sub`). `one` and `eps` stay shut, so that no proof computes with numbers of 300 digits:
-- `omega` takes them as unknowns with `one_eps` between them.
use Rattle.std.proofs.Common.{◌≡◌, ℕ, ◌+◌, ◌*◌, ◌^◌, ◌<◌, ◌≤◌, Bool, true, false, refl, ap, mul-le-mul_right, le_of_mul-le-mul_right, arith, pow_pos}
use lib.Ieee.{Float, binary64, add, sub, mul}
use Rattle.floats.specs.Value.{sign, magnitude, Finite}
use Rattle.floats.specs.Binary64.{one}
use Rattle.floats.specs.Terms.Rounded.{Near, eps, pos64, neg64}
use Rattle.floats.proofs.Value.{if_pos, if_neg}
use Rattle.floats.proofs.Arithmetic.{add_near, sub_near}
use Rattle.floats.proofs.Sized.{Sized, sized_finite, sized_parts, big, small, top, mul_rounded}

pub one_eps : one ≡ 18014398509481984 * eps
unfolding one eps
one_eps = refl

pub one_pos : 0 < one
unfolding one
one_pos = pow_pos 1074

-- |x + y| ≤ 2 ^ M: the sum is within 2 ^ (M - 54). So for x - y.
module _ (M : ℕ) {x y : Float} (t : M ≤ 1023) (a : Finite binary64 x) (b : Finite binary64 y) where
  pub add64 : pos64 x + pos64 y ≤ neg64 x + neg64 y + 2 ^ M * one → neg64 x + neg64 y ≤ pos64 x + pos64 y + 2 ^ M * one
      → Near binary64 (add binary64 x y) (pos64 x + pos64 y) (neg64 x + neg64 y) (2 ^ M * eps)
  add64 u v = rw (← small M) (add_near (1020 + M) (top M t) a b (rw (big M) u) (rw (big M) v))

  pub sub64 : pos64 x + neg64 y ≤ neg64 x + pos64 y + 2 ^ M * one → neg64 x + pos64 y ≤ pos64 x + neg64 y + 2 ^ M * one
      → Near binary64 (sub binary64 x y) (pos64 x + neg64 y) (neg64 x + pos64 y) (2 ^ M * eps)
  sub64 u v = rw (← small M) (sub_near (1020 + M) (top M t) a b (rw (big M) u) (rw (big M) v))

-- a whole number w times a y that is not negative
pub mul_int64 : (M w : ℕ) {x y : Float} → M ≤ 1023 → Sized false (w * one) x → Finite binary64 y → neg64 y ≡ 0 → w * pos64 y ≤ 2 ^ M * one
    → Near binary64 (mul binary64 x y) (w * pos64 y) 0 (2 ^ M * eps)
mul_int64 M w {x} {y} t a b ny u = let p = sized_parts (sized_finite b) in go (sign y) (magnitude binary64 y) (sized_finite b) p.0 p.1
  where
    cancel : (g Y E : ℕ) → g * one ≤ w * one * Y + E * one → w * one * Y ≤ g * one + E * one → (g ≤ w * Y + E) × (w * Y ≤ g + E)
    cancel g Y E h k =
        (le_of_mul-le-mul_right (let z : g * one ≤ (w * Y + E) * one = omega arith in z) one_pos, le_of_mul-le-mul_right (let z : w * Y * one ≤ (g + E) * one = omega arith in z) one_pos)

    go : (s : Bool) (Y : ℕ) → Sized s Y y → pos64 y ≡ if_pos s Y → neg64 y ≡ if_neg s Y → Near binary64 (mul binary64 x y) (w * pos64 y) 0 (2 ^ M * eps)
    go true Y B p n =
        let wp : w * pos64 y ≡ w * 0 = ap (λ (z : ℕ). w * z) p in
        let wy : w * Y ≡ w * 0 = ap (λ (z : ℕ). w * z) (let z : Y ≡ 0 = omega arith in z) in
        let r = mul_rounded a B M t (let z = mul-le-mul_right one u in omega (arith, ap (λ (z : ℕ). z * one) wy)) in
        let q = sized_parts r.sized in
        let c = cancel r.g Y (2 ^ M * eps) r.upper r.lower in
        record { ok = r.sized.ok; upper = omega arith; lower = omega arith }
    go false Y B p n =
        let wy : w * pos64 y ≡ w * Y = ap (λ (z : ℕ). w * z) p in
        let r = mul_rounded a B M t (let z = mul-le-mul_right one u in omega (arith, ap (λ (z : ℕ). z * one) wy)) in
        let q = sized_parts r.sized in
        let c = cancel r.g Y (2 ^ M * eps) r.upper r.lower in
        record { ok = r.sized.ok; upper = omega arith; lower = omega arith }

-- ---- errors add up
pub near_self : {x : Float} → Finite binary64 x → Near binary64 x (pos64 x) (neg64 x) 0
near_self a = record { ok = a; upper = omega arith; lower = omega arith }

-- P - N written otherwise, and a wider bound
pub near_as : {x : Float} {P N E Q R F : ℕ} → Near binary64 x P N E → P + R ≡ Q + N → E ≤ F → Near binary64 x Q R F
near_as h e l = record { ok = h.ok; upper = omega arith; lower = omega arith }

-- x and y computed, and |x + y| or |x - y| at most 2 ^ M by what they are near to
module _ (M : ℕ) {x y : Float} {P N E Q R F : ℕ} (t : M ≤ 1023) (X : Near binary64 x P N E) (Y : Near binary64 y Q R F) where
  pub near_add : P + Q + (E + F) ≤ N + R + 2 ^ M * one → N + R + (E + F) ≤ P + Q + 2 ^ M * one → Near binary64 (add binary64 x y) (P + Q) (N + R) (E + F + 2 ^ M * eps)
  near_add u v = let r = add64 M t X.ok Y.ok (omega arith) (omega arith) in record { ok = r.ok; upper = omega arith; lower = omega arith }

  pub near_sub : P + R + (E + F) ≤ N + Q + 2 ^ M * one → N + Q + (E + F) ≤ P + R + 2 ^ M * one → Near binary64 (sub binary64 x y) (P + R) (N + Q) (E + F + 2 ^ M * eps)
  near_sub u v = let r = sub64 M t X.ok Y.ok (omega arith) (omega arith) in record { ok = r.ok; upper = omega arith; lower = omega arith }

-- one more rounding: a float joins or leaves a computed number
module _ (M : ℕ) {s x : Float} {P N E : ℕ} (t : M ≤ 1023) (S : Near binary64 s P N E) (X : Finite binary64 x) where
  pub count_add : P + pos64 x + E ≤ N + neg64 x + 2 ^ M * one → N + neg64 x + E ≤ P + pos64 x + 2 ^ M * one → Near binary64 (add binary64 s x) (P + pos64 x) (N + neg64 x) (E + 2 ^ M * eps)
  count_add u v = near_as (near_add M t S (near_self X) (omega arith) (omega arith)) (omega arith) (omega arith)

  pub count_sub : P + neg64 x + E ≤ N + pos64 x + 2 ^ M * one → N + pos64 x + E ≤ P + neg64 x + 2 ^ M * one → Near binary64 (sub binary64 s x) (P + neg64 x) (N + pos64 x) (E + 2 ^ M * eps)
  count_sub u v = near_as (near_sub M t S (near_self X) (omega arith) (omega arith)) (omega arith) (omega arith)
