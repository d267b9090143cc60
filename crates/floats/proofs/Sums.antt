-- How far a running sum of floats strays from the exact one: the scans' sum of (value - T) over up to 65,535 places, and the window's sum, from which an entry leaves and which
-- an entry joins at each of up to 2^31 letters; and the scores made of them by taking off f and, for the window, its length times T.
-- Entries and T lie in 0..16 and f in 0..1,048,576, so that each sum stays below 2^20 and each score below 2^21.
use Rattle.std.proofs.Common.{◌≡◌, ℕ, suc, ◌+◌, ◌*◌, ◌<◌, ◌≤◌, ap, mul-le-mul_right, mul-le-mul_left, arith, lit≤}
use lib.Ieee.{Float, binary64, add, sub, mul}
use Rattle.floats.specs.Binary64.{one, number, zero64}
use Rattle.floats.proofs.Sized.{sized_parts, number_sized}
use Rattle.floats.proofs.Binary64.{one_eps, mul_int64, near_self, near_as, near_add, near_sub, count_add, count_sub}
use Rattle.floats.proofs.Range.{zero_number}
use Rattle.floats.specs.Terms.Rounded.{Near, eps, pos64, Ranged, err, half, After}

pub err_small : (i : ℕ) → i ≤ 2147483648 → err i + half ≤ one
err_small i h = let e : i * eps ≤ 2147483648 * eps = mul-le-mul_right eps h in omega (arith, one_eps)

pub err_units : (i : ℕ) → err i * 8589934592 ≡ i * one
err_units i = let e : i * one ≡ i * (18014398509481984 * eps) = ap (λ (z : ℕ). i * z) one_eps in omega arith

-- ---- 0, where the sums begin
pub zero_near : Near binary64 zero64 0 0 0
zero_near = let z = zero_number in let p = sized_parts z in near_as (near_self z.ok) (omega arith) (omega arith)

pub zero_ranged : (B : ℕ) → Ranged B zero64
zero_ranged B = let z = zero_number in let p = sized_parts z in record { ok = z.ok; high = omega arith; low = p.1 }

-- ---- the scans: a sum after some places
pub after_as : {s : Float} {i P N j Q R : ℕ} → After i s P N → i ≡ j → P ≡ Q → N ≡ R → After j s Q R
after_as h a b c = rw (← a, ← b, ← c) h

-- P - N written otherwise.
pub after_shift : {s : Float} {i P N : ℕ} (Q R : ℕ) → After i s P N → P + R ≡ Q + N → After i s Q R
after_shift Q R a e = record { near = near_as a.near e (omega arith); high = omega (arith, a.high); low = omega (arith, a.low) }

pub after_start : After 0 zero64 0 0
after_start = record { near = near_as zero_near (omega arith) (omega arith); high = omega arith; low = omega arith }

-- a place adds a - t
pub after_step : {i : ℕ} {s a t : Float} {P N : ℕ} → After i s P N → i < 65535 → Ranged 16 a → Ranged 16 t → After (suc i) (add binary64 s (sub binary64 a t)) (P + pos64 a) (N + pos64 t)
after_step {i} H l A B =
    let io : i * one ≤ 65534 * one = mul-le-mul_right one (omega arith) in
    let ie : i * eps ≤ 65534 * eps = mul-le-mul_right eps (omega arith) in
    let oe = one_eps in
    let d = count_sub 5 (lit≤ tt) (near_self A.ok) B.ok (omega arith) (omega arith) in
    record { near = near_as (near_add 20 (lit≤ tt) H.near d (omega arith) (omega arith)) (omega arith) (omega arith); high = omega arith; low = omega arith }

-- the score: the sum less an f entry
pub after_score : {i : ℕ} {s f : Float} {P N : ℕ} → After i s P N → i ≤ 65535 → Ranged 1048576 f → Near binary64 (sub binary64 s f) P (N + pos64 f) (err (i + 1))
after_score {i} H l F =
    let io : i * one ≤ 65535 * one = mul-le-mul_right one l in
    let ie : i * eps ≤ 65535 * eps = mul-le-mul_right eps l in
    let oe = one_eps in
    near_as (count_sub 21 (lit≤ tt) H.near F.ok (omega arith) (omega arith)) (omega arith) (omega arith)

-- ---- the window: an entry x leaves a sum that is near G + x, or joins one that is near G
module _ {s : Float} {x : Float} {G E B : ℕ} (X : Ranged B x) (g : G + pos64 x ≤ 1048575 * one) (e : E ≤ one) where
  pub sum_leave : Near binary64 s (G + pos64 x) 0 E → Near binary64 (sub binary64 s x) G 0 (E + half)
  sum_leave N = near_as (count_sub 20 (lit≤ tt) N X.ok (omega arith) (omega arith)) (omega arith) (omega arith)

  pub sum_join : Near binary64 s G 0 E → Near binary64 (add binary64 s x) (G + pos64 x) 0 (E + half)
  sum_join N = near_as (count_add 20 (lit≤ tt) N X.ok (omega arith) (omega arith)) (omega arith) (omega arith)

-- the window score: the sum less an f entry, less the length of the window times T
pub sum_score : {i : ℕ} {s f t : Float} {G : ℕ} (len : ℕ) → Near binary64 s G 0 (err i) → i ≤ 2147483648 → len ≤ 65535 → G ≤ len * (16 * one) → Ranged 1048576 f → Ranged 16 t
    → Near binary64 (sub binary64 (sub binary64 s f) (mul binary64 (number len) t)) G (len * pos64 t + pos64 f) (err (i + 3))
sum_score {i} len N li ll g F B =
    let th = mul-le-mul_left len B.high in
    let lo : len * one ≤ 65535 * one = mul-le-mul_right one ll in
    let oe = one_eps in
    let es = err_small i li in
    let m = mul_int64 20 len (lit≤ tt) (number_sized len (omega arith)) B.ok B.low (omega arith) in
    let d = count_sub 21 (lit≤ tt) N F.ok (omega arith) (omega arith) in
    near_as (near_sub 21 (lit≤ tt) d m (omega arith) (omega arith)) (omega arith) (omega arith)
