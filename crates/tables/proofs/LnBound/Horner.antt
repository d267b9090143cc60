-- The series in the form in which the code sums it: `num j l / den j l` is 1 / (2j + 1) + z^2 / (2j + 3) + .., l terms with z^2 = P / Q, and the code's h is near it at each turn.
-- An error is divided by 32 at each turn, so the code's start, 1 / 21, may stand for any number of terms from the eleventh on.
use Rattle.std.proofs.Common.{◌≡◌, refl, sym, ap, subst, false, ℕ, zero, suc, ◌+◌, ◌*◌, ◌^◌, ◌≤◌, ◌<◌, le_trans, mul-pos, pow-suc, mul-le-mul, mul-le-mul_left, mul-le-mul_right, arith, lit<, lit≤, Float}
use native.Mathlib.Nat.{pow-le-pow_right}
use lib.Ieee.{of_bits, of_int}
use Rattle.floats.specs.Arithmetic.{◌⊗◌, ◌⊘◌}
use Rattle.floats.specs.Binary64.{one, number, one64}
use Rattle.floats.specs.Terms.Rounded.{eps}
use Rattle.floats.proofs.Constants.{one64_is}
use Rattle.floats.proofs.Binary64.{one_pos, one_eps}
use Rattle.floats.proofs.Sized.{Sized, number_sized}
use Rattle.tables.specs.Countdown.{countdown}
use Rattle.tables.specs.Ln.{twenty_one, ln_step, ln_series}
use Rattle.tables.proofs.LnBound.Close.{Close, close_below, Approx, approx_as, approx_wider, approx_mul, approx_add, approx_div}

-- ---- the sums, P / Q being at most 1 / 32
unfoldable pub den : ℕ → ℕ → ℕ → ℕ
den Q j zero = 1
den Q j (suc l) = (2 * j + 1) * (Q * den Q (suc j) l)

unfoldable pub num : ℕ → ℕ → ℕ → ℕ → ℕ
num P Q j zero = 0
num P Q j (suc l) = den Q (suc j) l * Q + (2 * j + 1) * (P * num P Q (suc j) l)

pub den_pos : (Q j l : ℕ) → 0 < Q → 0 < den Q j l
unfolding den
den_pos Q j zero h = lit< tt
den_pos Q j (suc l) h = mul-pos (let c : 0 < 2 * j + 1 = omega arith in c) (mul-pos h (den_pos Q (suc j) l h))

shrunk : (P Q N D : ℕ) → 32 * P ≤ Q → N * 2 ≤ 3 * D → P * N * 64 ≤ 3 * (Q * D)
shrunk P Q N D h k = omega (arith, mul-le-mul_right D h, mul-le-mul_left P k)

small_step : (j P Q N D : ℕ) → P * N * 64 ≤ 3 * (Q * D) → (D * Q + (2 * j + 1) * (P * N)) * 2 ≤ 3 * ((2 * j + 1) * (Q * D))
small_step j P Q N D h = omega (arith, mul-le-mul_left j h)

pub num_small : (P Q j l : ℕ) → 32 * P ≤ Q → num P Q j l * 2 ≤ 3 * den Q j l
unfolding num den
num_small P Q j zero h = lit≤ tt
num_small P Q j (suc l) h = small_step j P Q (num P Q (suc j) l) (den Q (suc j) l) (shrunk P Q (num P Q (suc j) l) (den Q (suc j) l) h (num_small P Q (suc j) l h))

-- ---- h before the turn for 2j - 1, near l terms from the j-th on
abbrev pub Partial : ℕ → ℕ → ℕ → ℕ → Float → Type 0
Partial P Q j l h = Approx false ((100 + 32 ^ j) * eps) (num P Q j l) (den Q j l) h

pub one_sized : Sized false (1 * one) one64
one_sized = subst (λ (x : Float). Sized false (1 * one) x) (sym one64_is) (number_sized 1 (lit< tt))

-- 1 / d
inverse : (d : ℕ) {y : Float} → 0 < d → Sized false (d * one) y → Approx false (16 * eps) 1 d (one64 ⊘ y)
inverse d h Y = approx_div 1 d one one_sized Y one_pos h (omega arith)

inverse_small : (d g : ℕ) → 0 < d → Close (16 * eps) g 1 d → g ≤ 2 * one
inverse_small d g h c = let oe = one_eps in let k : g * 1 ≤ 2 * one = close_below 1 1 2 1 h c (omega arith) (omega arith) (lit< tt) in omega arith

room : (T e P Q o x : ℕ) → 32 * P ≤ Q → x ≤ 2 * o → (100 + T * 32) * e * P * o + 24 * e * (Q * x) ≤ (52 + T) * e * (Q * o)
room T e P Q o x h k = omega (arith, mul-le-mul_right ((100 + T * 32) * e * o) h, mul-le-mul_left (e * Q) k)

twenty_one_is : twenty_one ≡ number 21
unfolding of_bits of_int
twenty_one_is = refl

twenty_one_sized : Sized false (21 * one) twenty_one
twenty_one_sized = subst (λ (x : Float). Sized false (21 * one) x) (sym twenty_one_is) (number_sized 21 (lit< tt))

-- 1 / 21 for 1 / 21 and any number of terms after it
begun : (g o e P Q N D : ℕ) → o ≡ 18014398509481984 * e → g * 21 ≤ 1 * o + 16 * e * 21 → 1 * o ≤ g * 21 + 16 * e * 21 → P * N * 64 ≤ 3 * (Q * D)
    → (g * (21 * (Q * D)) ≤ (D * Q + 21 * (P * N)) * o + (100 + 1125899906842624) * e * (21 * (Q * D))) × ((D * Q + 21 * (P * N)) * o ≤ g * (21 * (Q * D)) + (100 + 1125899906842624) * e * (21 * (Q * D)))
begun g o e P Q N D oe u v s =
    let s' = mul-le-mul_right o s in
    let oe' : o * (Q * D) ≡ 18014398509481984 * e * (Q * D) = ap (λ (z : ℕ). z * (Q * D)) oe in
    (omega (arith, mul-le-mul_right (Q * D) u), omega (arith, mul-le-mul_right (Q * D) v))

module _ (P Q : ℕ) (ratio : 32 * P ≤ Q) (pos : 0 < Q) (q : Float) (Y : Approx false (24 * eps) P Q q) where
  square_small : Y.g ≤ one
  square_small = let oe = one_eps in let k : Y.g * 1 ≤ 1 * one = close_below 1 32 1 1 pos Y.close (omega arith) (omega arith) (lit< tt) in omega arith

  -- h * q, where h is near num / den
  turned : (j l : ℕ) {h : Float} → j ≤ 9 → Partial P Q (suc j) l h → Approx false ((68 + 32 ^ j) * eps) (num P Q (suc j) l * P) (den Q (suc j) l * Q) (h ⊗ q)
  turned j l few X =
      let T = 32 ^ j in
      let oe = one_eps in
      let te : 32 ^ suc j ≡ T * 32 = pow-suc 32 j in
      let tl : T * eps ≤ 35184372088832 * eps = mul-le-mul_right eps (pow-le-pow_right {n = 32} (lit< tt) few) in
      let X' = approx_wider X (mul-le-mul_right eps (let z : 100 + 32 ^ suc j ≤ 100 + T * 32 = omega arith in z)) in
      let small : X'.g * 1 ≤ 2 * one = close_below 3 2 2 1 (den_pos Q (suc j) l pos) X'.close (num_small P Q (suc j) l ratio) (omega arith) (lit< tt) in
      let small' : X'.g ≤ 2 * one = omega arith in
      approx_wider (approx_mul X' Y ((52 + T) * eps) (room T eps P Q one X'.g ratio small') (le_trans (mul-le-mul small' square_small) (let z : 2 * one * one ≤ 16 * one * one = omega arith in z))) (omega arith)

  turn : (j l : ℕ) (h : Float) → j ≤ 9 → Partial P Q (suc j) l h → Partial P Q j (suc l) (ln_step q j h)
  unfolding ln_step num den
  turn j l h few X =
      let oe = one_eps in
      let D = den Q (suc j) l in
      let N = num P Q (suc j) l in
      let tl : 32 ^ j * eps ≤ 35184372088832 * eps = mul-le-mul_right eps (pow-le-pow_right {n = 32} (lit< tt) few) in
      let M = turned j l few X in
      let I = inverse (2 * j + 1) (omega arith) (number_sized (2 * j + 1) (omega arith)) in
      let m_small : M.g * 1 ≤ 1 * one = close_below 3 64 1 1 (mul-pos (den_pos Q (suc j) l pos) pos) M.close (let z = shrunk P Q N D ratio (num_small P Q (suc j) l ratio) in omega arith) (omega arith) (lit< tt) in
      let i_small = inverse_small (2 * j + 1) I.g (omega arith) I.close in
      approx_as 1 (lit< tt) (approx_add M I (omega arith)) (omega arith) (omega arith) (omega arith)

  start : (l : ℕ) → Partial P Q 10 (suc l) (one64 ⊘ twenty_one)
  unfolding num den
  start l =
      let I = inverse 21 (lit< tt) twenty_one_sized in
      let c = begun I.g one eps P Q (num P Q 11 l) (den Q 11 l) one_eps I.close.upper I.close.lower (shrunk P Q (num P Q 11 l) (den Q 11 l) ratio (num_small P Q 11 l ratio)) in
      record { g = I.g; sized = I.sized; close = record { upper = c.0; lower = c.1 } }

  turns : (n l : ℕ) (h : Float) → n ≤ 10 → Partial P Q n l h → Partial P Q 0 (n + l) (countdown (ln_step q) n h)
  unfolding countdown
  turns zero l h few X = subst (λ (k : ℕ). Partial P Q 0 k h) (let e : l ≡ 0 + l = omega arith in e) X
  turns (suc n) l h few X =
      subst (λ (k : ℕ). Partial P Q 0 k (countdown (ln_step q) n (ln_step q n h))) (let e : n + suc l ≡ suc n + l = omega arith in e)
      (turns n (suc l) (ln_step q n h) (omega arith) (turn n l h (omega arith) X))

  pub series_near : (l : ℕ) → Approx false (101 * eps) (num P Q 0 (10 + suc l)) (den Q 0 (10 + suc l)) (ln_series q)
  unfolding ln_series
  series_near l = turns 10 (suc l) (one64 ⊘ twenty_one) (lit≤ tt) (start l)
