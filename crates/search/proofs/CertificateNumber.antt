-- The float numbers that a certificate keeps, bounds of exact scores: each letter changes one by at most 16 and rounds it (`raised`, `lowered`, `stepped`).
-- What rounding may take them away from the exact bounds is `strayed`; what a comparison with `distance` says of them (`far_below`, `far_above`).
use Rattle.std.proofs.Common.{◌≡◌, refl, ℕ, suc, ◌+◌, ◌*◌, ◌≤◌, ◌<◌, mul-le-mul_right, arith, T, lit≤, Float}
use lib.Ieee.{binary64, fits, le, lt, neg, of_bits, of_fields}
use Rattle.floats.specs.Value.{magnitude, Finite}
use Rattle.floats.specs.Arithmetic.{◌⊕◌, ◌⊖◌}
use Rattle.floats.specs.Binary64.{one}
use Rattle.floats.proofs.Binary64.{one_eps, near_self, near_as, near_add, near_sub, count_sub}
use Rattle.floats.proofs.Compare.{lt_value, le_value}
use Rattle.floats.proofs.Range.{ranged_16}
use Rattle.floats.specs.Terms.Rounded.{Near, pos_part, neg_part, eps, pos64, neg64, Ranged}
use Rattle.scans.specs.Terms.Units.{margin, distance, unevenness}
use Rattle.search.specs.Terms.Certified.{strayed, KeptNumber}
use Rattle.scans.proofs.Shape.{margin_eps, unevenness_eps}

pub strayed_few : (s : ℕ) → s ≤ 65535 → strayed s * 2 ≤ margin
strayed_few s h = omega (arith, mul-le-mul_right unevenness h, unevenness_eps, margin_eps)

pub distance_ranged : Ranged 16 distance
unfolding le fits of_bits of_fields
distance_ranged = ranged_16 distance tt tt tt

pub distance_margin : pos64 distance ≡ margin * 4
unfolding pos_part magnitude margin of_bits of_fields
distance_margin = refl

below_zero : Finite binary64 (neg distance)
unfolding fits neg of_bits of_fields
below_zero = record { finite = tt; fits = tt }

below_margin : (pos64 (neg distance) ≡ 0) × (neg64 (neg distance) ≡ margin * 4)
unfolding pos_part neg_part magnitude margin neg of_bits of_fields
below_margin = (refl, refl)

-- Tests of a number against 2^-10.
module _ {x : Float} (ok : Finite binary64 x) where
  pub far_below : T (lt x (neg distance)) → pos64 x + margin * 4 ≤ neg64 x
  far_below t = let b = below_margin in omega (arith, (lt_value ok below_zero).0 t, b.0, b.1)

  pub far_above : T (le distance x) → neg64 x + margin * 4 ≤ pos64 x
  far_above t = omega (arith, (le_value distance_ranged.ok ok).0 t, distance_margin, distance_ranged.low)

pub kept_on : {s : ℕ} {x : Float} → KeptNumber s x → KeptNumber (suc s) x
kept_on k = record { ok = k.ok; high = omega (arith, k.high); low = omega (arith, k.low) }

-- One letter: y, of at most 16 in size, is added or taken off.
pub record Changed (s : ℕ) (x : Float) (P N : ℕ) : Type 0 where
  pub kept : KeptNumber s x
  pub near : Near binary64 x P N unevenness

module _ {s : ℕ} {x y : Float} {Q R : ℕ} (k : KeptNumber s x) (l : s < 65535) (n : Near binary64 y Q R (32 * eps)) (high : Q ≤ R + 16 * one) (low : R ≤ Q + 16 * one) where
  changes : {z : Float} {P N : ℕ} → P ≤ N + (2097152 + s * 17 + 16) * one → N ≤ P + (2097152 + s * 17 + 16) * one → Near binary64 z P N (0 + 32 * eps + 4194304 * eps) → Changed (suc s) z P N
  changes u v near =
      let oe = one_eps in
      let ue = unevenness_eps in
      record { kept = record { ok = near.ok; high = omega (arith, near.upper); low = omega (arith, near.lower) }; near = near_as near (omega arith) (omega arith) }

  plus : Changed (suc s) (x ⊕ y) (pos64 x + Q) (neg64 x + R)
  plus =
      let so = mul-le-mul_right one (let z : s ≤ 65534 = omega arith in z) in
      let oe = one_eps in
      let kh = k.high in
      let kl = k.low in
      changes (omega arith) (omega arith) (near_as (near_add 22 (lit≤ tt) (near_self k.ok) n (omega arith) (omega arith)) (omega arith) (omega arith))

  minus : Changed (suc s) (x ⊖ y) (pos64 x + R) (neg64 x + Q)
  minus =
      let so = mul-le-mul_right one (let z : s ≤ 65534 = omega arith in z) in
      let oe = one_eps in
      let kh = k.high in
      let kl = k.low in
      changes (omega arith) (omega arith) (near_as (near_sub 22 (lit≤ tt) (near_self k.ok) n (omega arith) (omega arith)) (omega arith) (omega arith))

module _ {s : ℕ} {x a : Float} (k : KeptNumber s x) (l : s < 65535) (A : Ranged 16 a) where
  -- By an ln entry,
  pub raised : Changed (suc s) (x ⊕ a) (pos64 x + pos64 a) (neg64 x)
  raised =
      let ah = A.high in
      let al = A.low in
      let c = plus {Q = pos64 a} {R = 0} k l (near_as (near_self A.ok) (omega arith) (omega arith)) (omega arith) (omega arith) in
      record { kept = c.kept; near = near_as c.near (omega arith) (omega arith) }

  module _ {b : Float} (B : Ranged 16 b) where
    difference : Near binary64 (a ⊖ b) (pos64 a) (pos64 b) (32 * eps)
    difference =
        let ah = A.high in
        let al = A.low in
        let bh = B.high in
        let bl = B.low in
        near_as (count_sub 5 (lit≤ tt) (near_self A.ok) B.ok (omega arith) (omega arith)) (omega arith) (omega arith)

    -- by one less T,
    pub stepped : Changed (suc s) (x ⊕ (a ⊖ b)) (pos64 x + pos64 a) (neg64 x + pos64 b)
    stepped = let ah = A.high in let bh = B.high in plus k l difference (omega arith) (omega arith)

    -- and by the difference of two.
    pub lowered : Changed (suc s) (x ⊖ (a ⊖ b)) (pos64 x + pos64 b) (neg64 x + pos64 a)
    lowered = let ah = A.high in let bh = B.high in minus k l difference (omega arith) (omega arith)
