-- The formula's parts against the brackets of 20 terms.
use Rattle.std.proofs.Common.{◌≡◌, refl, sym, ap, ap₂, ◌∙◌, ℕ, zero, suc, ◌+◌, ◌-◌, ◌*◌, ◌^◌, ◌≤◌, ◌<◌, le_trans, le_of_eq, one-mul, mul-pos, mul-le-mul_left, mul-le-mul_right, le_of_mul-le-mul_right, pow-suc, arith, lit≤}
use native.Mathlib.Nat.{mul-mul-mul_comm, pow-zero, pow-le-pow_left, div-le_of_le-mul}
use Rattle.floats.specs.Binary64.{one}
use Rattle.floats.specs.Terms.Rounded.{eps}
use Rattle.floats.proofs.Binary64.{one_eps}
use Rattle.tables.specs.Series.{term, lower, rest, upper, over, total}
use Rattle.tables.proofs.LnBound.Horner.{num, den, den_pos}
use Rattle.tables.proofs.LnBound.Parts.{NearTail, constant, squares}
use Rattle.tables.proofs.LnBound.Sums.{over_pos, total_split, lower_below, lower_near}

-- ---- the nested sum of 20 terms is the plain one
over_none : (q : ℕ) → over q 0 ≡ 1
unfolding over
over_none q = refl

total_none : (p q : ℕ) → total p q 0 ≡ 0
unfolding total
total_none p q = refl

power_one : (q : ℕ) → q ^ 1 ≡ q
power_one q = pow-suc q 0 ∙ ap (λ (z : ℕ). z * q) (pow-zero q) ∙ one-mul q

linked : (T O a z w b D N : ℕ) → a ≡ 1 → z ≡ 0 → T * (w * D) * a ≡ (z * (w * D) + 2 * b * N * a) * O → T * (w * D) ≡ 2 * b * N * O
linked T O a z w b D N p q h = omega (arith, ap (λ (x : ℕ). T * (w * D) * x) p, ap (λ (x : ℕ). 2 * b * N * x * O) p, ap (λ (x : ℕ). x * (w * D) * O) q)

link : (p q : ℕ) → 0 < q → total p q 20 * (q * den (q * q) 0 20) ≡ 2 * p * num (p * p) (q * q) 0 20 * over q 20
link p q pos =
    linked (total p q 20) (over q 20) (over q 0) (total p q 0) q p (den (q * q) 0 20) (num (p * p) (q * q) 0 20) (over_none q) (total_none p q)
    (rw (power_one q, power_one p) at (total_split p q pos 0 20))

-- ---- g near the tail is near the sum
above_sum : (g a u E s O T o : ℕ) → 0 < u * O → T * u ≡ a * O → g * u ≤ a * o + E * u → o * T ≤ (s + 20) * O → g ≤ s + 20 + E
above_sum g a u E s O T o p l h k = le_of_mul-le-mul_right (let z : g * (u * O) ≤ (s + 20 + E) * (u * O) = omega (arith, ap (λ (x : ℕ). x * o) l, mul-le-mul_right O h, mul-le-mul_right u k) in z) p

below_sum : (g a u E s O T o : ℕ) → 0 < u * O → T * u ≡ a * O → a * o ≤ g * u + E * u → s * O ≤ o * T → s ≤ g + E
below_sum g a u E s O T o p l h k = le_of_mul-le-mul_right (let z : s * (u * O) ≤ (g + E) * (u * O) = omega (arith, ap (λ (x : ℕ). x * o) l, mul-le-mul_right O h, mul-le-mul_right u k) in z) p

-- ---- the rest is small
product_power : (a b k : ℕ) → (a * b) ^ k ≡ a ^ k * b ^ k
product_power a b zero = pow-zero (a * b) ∙ sym (one-mul 1) ∙ ap₂ (λ (x y : ℕ). x * y) (sym (pow-zero a)) (sym (pow-zero b))
product_power a b (suc k) =
    pow-suc (a * b) k ∙ ap (λ (z : ℕ). z * (a * b)) (product_power a b k) ∙ mul-mul-mul_comm (a ^ k) (b ^ k) a b ∙ ap₂ (λ (x y : ℕ). x * y) (sym (pow-suc a k)) (sym (pow-suc b k))

small_power : (p q : ℕ) → p * 4 ≤ q → p ^ 41 * 1152921504606846976 ≤ q ^ 41
small_power p q h =
    le_trans (mul-le-mul_left (p ^ 41) (lit≤ {m = 1152921504606846976} {n = 4 ^ 41} tt)) (le_trans (le_of_eq (sym (product_power p 4 41))) (pow-le-pow_left h 41))

rest_room : (A B Q W e o : ℕ) → o ≡ 18014398509481984 * e → B * 1152921504606846976 ≤ A → Q ≤ 2 * W → 2 * o * B * Q ≤ 41 * A * W * e
rest_room A B Q W e o oe h k = omega (arith, ap (λ (z : ℕ). 2 * z * B * Q) oe, mul-le-mul_right (Q * e) h, mul-le-mul_left (A * e) k)

rest_small : (p q : ℕ) → p * 29 ≤ 5 * q → rest p q 20 ≤ eps + 1
unfolding rest
rest_small p q h =
    let s : 32 * (p * p) ≤ q * q = squares p q h in
    let d = div-le_of_le-mul (41 * q ^ 41 * (q * q - p * p)) {m = 2 * one * p ^ 41 * (q * q)} {n = eps} (rest_room (q ^ 41) (p ^ 41) (q * q) (q * q - p * p) eps one one_eps (small_power p q (omega arith)) (omega arith)) in
    omega arith

-- ---- both ends of a tail's bracket
pub record Tail (p q g : ℕ) : Type 0 where
  pub high : upper p q 20 ≤ g + 140 * eps + 21
  pub low : g ≤ lower p q 20 + 139 * eps + 20

pub tail : (p q g : ℕ) → p * 29 ≤ 5 * q → 0 < q → NearTail p q g → Tail p q g
unfolding upper
tail p q g ratio pos c =
    let N = num (p * p) (q * q) 0 20 in
    let D = den (q * q) 0 20 in
    let w : 0 < q * D * over q 20 = mul-pos (mul-pos pos (den_pos (q * q) 0 20 (mul-pos pos pos))) (over_pos q 20 pos) in
    let r = rest_small p q ratio in
    let a = above_sum g (2 * p * N) (q * D) (139 * eps) (lower p q 20) (over q 20) (total p q 20) one w (link p q pos) c.upper (lower_near p q pos 20) in
    let b = below_sum g (2 * p * N) (q * D) (139 * eps) (lower p q 20) (over q 20) (total p q 20) one w (link p q pos) c.lower (lower_below p q pos 20) in
    record { high = omega arith; low = omega arith }

-- ---- the constant for ln 2, computed
pub ln2_high : upper 1 3 20 ≤ constant + eps
unfolding lower term rest upper one eps
ln2_high = lit≤ tt

pub ln2_low : constant ≤ lower 1 3 20 + eps
unfolding lower term one eps
ln2_low = lit≤ tt
