-- A float of a table in whole numbers of 2^-32 is off by less than two of these (`whole_rounds`): it is multiplied, which rounds by a quarter at most, and cut.
use Rattle.std.proofs.Common.{◌≡◌, refl, sym, ap, ◌∙◌, subst, ℕ, ◌+◌, ◌*◌, ◌-◌, ◌/◌, ◌^◌, ◌≤◌, ◌<◌, min, mul-le-mul_right, le_of_mul-le-mul_right, arith, Bool, true, false, true≢false, T, lit<, lit≤, lt_of_not-le, ℤ, Float}
use Rattle.std.proofs.Math.Nat.{div-mul-le_self, lt-div-mul-add}
use lib.Ieee.{nan, inf, fin, binary64, up, down, unlike, fits, of_bits, of_int, to_unsigned}
use lib.Ieee.Fits.{down_pos}
use Rattle.floats.specs.Value.{sign, magnitude}
use Rattle.floats.specs.Arithmetic.{◌⊗◌}
use Rattle.floats.specs.Binary64.{one, number}
use Rattle.floats.specs.Terms.Rounded.{Ranged, eps, pos64}
use Rattle.floats.proofs.Value.{magnitude_whole}
use Rattle.floats.proofs.Binary64.{one_eps, one_pos}
use Rattle.floats.proofs.Sized.{Sized, RoundedTo, sized_finite, sized_parts, mul_rounded, number_sized}
use Rattle.deep.specs.Scores.{two_to32, whole}

-- 2^-32, in units of 2^-1074.
unfoldable pub unit : ℕ
unit = 2 ^ 1042

pub unit_eps : unit ≡ 4194304 * eps
unfolding unit eps
unit_eps = refl

pub one_unit : one ≡ 4294967296 * unit
one_unit = omega (arith, one_eps, unit_eps)

pub unit_pos : 0 < unit
unit_pos = omega (arith, one_unit, one_pos)

-- The float x is n times 2^-32, or less than two of these off.
pub record Rounds (x : Float) (n : ℕ) : Type 0 where
  pub lower : n * unit ≤ pos64 x + 2 * unit
  pub upper : pos64 x ≤ n * unit + 2 * unit

-- ---- A number of g units, cut.
cut_at : (n g m u d : ℕ) → n ≡ m * u / d → 0 < d → g * d ≡ m * u * one → (n * one ≤ g) × (g < n * one + one)
cut_at n g m u d e p h =
    let low : n * d ≤ m * u = rw e (div-mul-le_self (m * u) d) in
    let high : m * u < n * d + d = rw e (lt-div-mul-add p) in
    let l = mul-le-mul_right one low in
    let k : m * u + 1 ≤ n * d + d = omega arith in
    let r = mul-le-mul_right one k in
    let o = one_pos in (
      le_of_mul-le-mul_right (let z : n * one * d ≤ g * d = omega arith in z) p,
      lt_of_not-le (λ (z : n * one + one ≤ g). let y = mul-le-mul_right d z in let b : ⊥ = omega arith in b),
    )

scaled : (s : Bool) (m g : ℕ) (e : ℤ) → T (fits binary64 (fin s m e)) → magnitude binary64 (fin s m e) ≡ g → g * down e ≡ m * up e * one
unfolding one
scaled s m g e f u = ap (λ (z : ℕ). z * down e) (sym u) ∙ magnitude_whole binary64 s m e f

cut : (y : Float) (g : ℕ) → Sized false g y → g ≤ 9007199254740992 * one → (to_unsigned 64 y * one ≤ g) × (g < to_unsigned 64 y * one + one)
unfolding to_unsigned
cut nan g A h = absurd A.ok.finite
cut (inf s) g A h = absurd A.ok.finite
cut (fin true m e) g A h = absurd (true≢false A.sign_is)
cut (fin false m e) g A h =
    let n : ℕ = m * up e / down e in
    let c = cut_at n g m (up e) (down e) refl (down_pos e) (scaled false m g e A.ok.fits A.units) in
    let few : n ≤ 9007199254740992 = le_of_mul-le-mul_right (let z : n * one ≤ 9007199254740992 * one = omega (arith, c.0) in z) one_pos in
    let same : min n (2 ^ 64 - 1) ≡ n = omega arith in
    rw same c

cut_none : (y : Float) (g : ℕ) → Sized true g y → to_unsigned 64 y ≡ 0
unfolding to_unsigned
cut_none nan g A = refl
cut_none (inf s) g A = absurd A.ok.finite
cut_none (fin true m e) g A = refl
cut_none (fin false m e) g A = absurd (true≢false (sym A.sign_is))

two_to32_is : two_to32 ≡ number 4294967296
unfolding of_bits of_int
two_to32_is = refl

two_sized : Sized false (4294967296 * one) two_to32
two_sized = subst (λ (x : Float). Sized false (4294967296 * one) x) (sym two_to32_is) (number_sized 4294967296 (lit< tt))

-- ---- The product, and what is left of it.
module _ (x : Float) (r : Ranged 1048576 x) where
  times : (s : Bool) (X : ℕ) → Sized s X x → X ≤ 1048576 * one → RoundedTo (2 ^ 52 * eps) (unlike s false) one (X * (4294967296 * one)) (x ⊗ two_to32)
  times s X A h = mul_rounded A two_sized 52 (lit≤ tt) (let z = mul-le-mul_right (4294967296 * one) h in let y : 4503599627370496 ≡ 2 ^ 52 = refl in omega arith)

  weighed : (n g X : ℕ) → n * one ≤ g → g < n * one + one → g * one ≤ X * (4294967296 * one) + 2 ^ 52 * eps * one → X * (4294967296 * one) ≤ g * one + 2 ^ 52 * eps * one
      → (n * unit ≤ X + 2 * unit) × (X ≤ n * unit + 2 * unit)
  weighed n g X a b u l =
      let o = one_pos in
      let high : g ≤ X * 4294967296 + 4503599627370496 * eps = le_of_mul-le-mul_right (let z : g * one ≤ (X * 4294967296 + 4503599627370496 * eps) * one = omega (arith, u) in z) o in
      let low : X * 4294967296 ≤ g + 4503599627370496 * eps = le_of_mul-le-mul_right (let z : X * 4294967296 * one ≤ (g + 4503599627370496 * eps) * one = omega (arith, l) in z) o in
      let e = one_unit in
      let n1 : n * one ≡ n * (4294967296 * unit) = ap (λ (z : ℕ). n * z) one_unit in
      let ue = unit_eps in
      (omega arith, omega arith)

  product : (s : Bool) → sign x ≡ s → Rounds x (to_unsigned 64 (x ⊗ two_to32))
  product true e =
      let A : Sized true (magnitude binary64 x) x = subst (λ (s : Bool). Sized s (magnitude binary64 x) x) e (sized_finite r.ok) in
      let p = sized_parts A in
      let X : ℕ = magnitude binary64 x in
      let none : X ≡ 0 = omega (arith, p.1, r.low) in
      let t = times true X A (omega arith) in
      let zero : to_unsigned 64 (x ⊗ two_to32) ≡ 0 = cut_none (x ⊗ two_to32) t.g t.sized in
      record { lower = rw zero (omega arith); upper = rw zero (omega (arith, p.0)) }
  product false e =
      let A : Sized false (magnitude binary64 x) x = subst (λ (s : Bool). Sized s (magnitude binary64 x) x) e (sized_finite r.ok) in
      let p = sized_parts A in
      let X : ℕ = magnitude binary64 x in
      let h : X ≤ 1048576 * one = omega (arith, p.0, r.high) in
      let t = times false X A h in
      let o = one_pos in
      let oe = one_eps in
      let high : t.g ≤ X * 4294967296 + 4503599627370496 * eps = le_of_mul-le-mul_right (let y : 4503599627370496 ≡ 2 ^ 52 = refl in let z : t.g * one ≤ (X * 4294967296 + 4503599627370496 * eps) * one = omega (arith, t.upper) in z) o in
      let c = cut (x ⊗ two_to32) t.g t.sized (omega arith) in
      let w = weighed (to_unsigned 64 (x ⊗ two_to32)) t.g X c.0 c.1 (omega (arith, t.upper)) (omega (arith, t.lower)) in
      record { lower = omega (arith, w.0, p.0); upper = omega (arith, w.1, p.0) }

pub whole_rounds : (x : Float) → Ranged 1048576 x → Rounds x (whole x)
unfolding whole
whole_rounds x r = product x r (sign x) refl
