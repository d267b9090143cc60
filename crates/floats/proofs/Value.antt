-- The two parts of a float, from `fits` (a float of a format is a whole number of units) and from `HasValue` (a float known as a fraction); and `near_intro`,
-- by which the laws of arithmetic make a `Near` of a rounded result.
use Rattle.std.proofs.Common.{◌≡◌, ℕ, zero, suc, ◌+◌, ◌-◌, ◌*◌, ◌/◌, ◌%◌, ◌^◌, ◌<◌, ◌≤◌, Bool, true, false, cond, ◌&&◌, T, eqb, ltb, leb, ℤ, pos, negsuc, sym, ap, ◌∙◌, le_trans, le_of_eq, le_of_suc-le-suc, mul-le-mul_right, mul_assoc, mul_comm, lt_of_not-le, zero-mul, mul-one, mul_right_comm, not-le_of_lt, le_of_mul-le-mul_right, div-one, mul-div_cancel, arith, leb→le, pow_pos, pow-add}
use native.Mathlib.Nat.{zero-div}
use lib.Pow.{pow-lt}
use lib.Ieee.{Float, nan, inf, fin, Format, prec, emax, low, up, down, fits}
use lib.Ieee.Digits.{back}
use lib.Ieee.Fits.{and_l, and_r, down_pos}
use lib.Ieee.Exact.{HasValue}
use lib.Ieee.Scale.{finite}
use Rattle.floats.specs.Value.{sign, magnitude}
use Rattle.floats.specs.Terms.Rounded.{pos_part, neg_part, Near}

-- the parts of a number of size g, by its sign
abbrev pub if_pos : Bool → ℕ → ℕ
if_pos s g = cond s 0 g

abbrev pub if_neg : Bool → ℕ → ℕ
if_neg s g = cond s g 0

-- the number of units is whole
unfits : (k l : ℕ) → 2 ^ suc k ≤ 2 ^ l → suc k ≤ l
unfits k l h = le_of_suc-le-suc (lt_of_not-le (λ (g : suc l ≤ suc k). not-le_of_lt (pow-lt g) h))

whole : (m : ℕ) (e : ℤ) (l : ℕ) → down e ≤ 2 ^ l → m * up e * 2 ^ l / down e * down e ≡ m * up e * 2 ^ l
whole m (pos k) l h = mul-one (m * 2 ^ k * 2 ^ l / 1) ∙ div-one (m * 2 ^ k * 2 ^ l)
whole m (negsuc k) l h =
    let d = 2 ^ suc k in
    let e : m * 1 * 2 ^ l ≡ m * 1 * 2 ^ (l - suc k) * d = ap (λ (x : ℕ). m * 1 * x) (sym (ap (λ (x : ℕ). 2 ^ x) (back l (suc k) (unfits k l h))) ∙ pow-add 2 (l - suc k) (suc k)) ∙ sym (mul_assoc (m * 1) (2 ^ (l - suc k)) d) in
    ap (λ (x : ℕ). x / d * d) e ∙ ap (λ (x : ℕ). x * d) (mul-div_cancel (m * 1 * 2 ^ (l - suc k)) (pow_pos (suc k))) ∙ sym e

pub magnitude_whole : (f : Format) (s : Bool) (m : ℕ) (e : ℤ) → T (fits f (fin s m e)) → magnitude f (fin s m e) * down e ≡ m * up e * 2 ^ low f
unfolding magnitude fits
magnitude_whole f s zero e h =
    let z : 0 * up e * 2 ^ low f ≡ 0 = ap (λ (x : ℕ). x * 2 ^ low f) (zero-mul (up e)) ∙ zero-mul (2 ^ low f) in
    ap (λ (x : ℕ). x / down e * down e) z ∙ ap (λ (x : ℕ). x * down e) (zero-div (down e)) ∙ zero-mul (down e) ∙ sym z
magnitude_whole f s (suc m) e h =
    whole (suc m) e (low f) (leb→le (down e) (2 ^ low f) (and_r (eqb (suc m % 2) 1 && ltb (suc m) (2 ^ prec f)) (leb (down e) (2 ^ low f)) (and_l (eqb (suc m % 2) 1 && ltb (suc m) (2 ^ prec f) && leb (down e) (2 ^ low f)) (ltb (suc m * up e) (2 ^ suc (emax f) * down e)) h)))

-- two floats over one divisor, each as many units as before
widen : (m u d c l x : ℕ) → x * d ≡ m * u * l → m * u * c * l ≡ x * (d * c)
widen m u d c l x e = mul_right_comm (m * u) c l ∙ ap (λ (z : ℕ). z * c) (sym e) ∙ mul_assoc x d c

pub over_one : (f : Format) (s t : Bool) (m n : ℕ) (e d : ℤ) → T (fits f (fin s m e)) → T (fits f (fin t n d))
    → (m * up e * down d * 2 ^ low f ≡ magnitude f (fin s m e) * (down e * down d)) × (n * up d * down e * 2 ^ low f ≡ magnitude f (fin t n d) * (down e * down d))
over_one f s t m n e d a b =
    let X = magnitude f (fin s m e) in
    let Y = magnitude f (fin t n d) in
    (widen m (up e) (down e) (down d) (2 ^ low f) X (magnitude_whole f s m e a), widen n (up d) (down d) (down e) (2 ^ low f) Y (magnitude_whole f t n d b) ∙ ap (λ (z : ℕ). Y * z) (mul_comm (down d) (down e)))

-- a / c and b / c, of X and Y units, are in the order of their units
pub order : (a b l X Y c : ℕ) → 0 < c → a * l ≡ X * c → b * l ≡ Y * c → a ≤ b → X ≤ Y
order a b l X Y c C p q h = le_of_mul-le-mul_right (le_trans (le_of_eq (sym p)) (le_trans (mul-le-mul_right l h) (le_of_eq q))) C

-- a float that is known to be ±g units
pub magnitude_of_value : (f : Format) (x : Float) (s : Bool) (g : ℕ) → HasValue x s g (2 ^ low f) → T (finite x) × (sign x ≡ s) × (magnitude f x ≡ g)
unfolding magnitude
magnitude_of_value f nan s g h = absurd h
magnitude_of_value f (inf t) s g h = absurd h
magnitude_of_value f (fin t m e) s g h = (tt, h.0, ap (λ (x : ℕ). x / down e) h.1 ∙ mul-div_cancel g (down_pos e))

pub parts_of_value : (f : Format) (x : Float) (s : Bool) (g : ℕ) → HasValue x s g (2 ^ low f) → T (finite x) × (pos_part f x ≡ if_pos s g) × (neg_part f x ≡ if_neg s g)
unfolding pos_part neg_part
parts_of_value f x s g h = let v = magnitude_of_value f x s g h in (v.0, rw (v.1, v.2), rw (v.1, v.2))

-- r is ±g units, which is within E of ±W, which is P - N
between : (s : Bool) (p m g W P N E : ℕ) → p ≡ if_pos s g → m ≡ if_neg s g → g ≤ W + E → W ≤ g + E → if_pos s W + N ≡ P + if_neg s W → (p + N ≤ P + m + E) × (P + m ≤ p + N + E)
between true p m g W P N E a b x y e = omega arith
between false p m g W P N E a b x y e = omega arith

pub near_intro : (f : Format) (r : Float) (s : Bool) (g W P N E : ℕ) → T (fits f r) → HasValue r s g (2 ^ low f) → g ≤ W + E → W ≤ g + E → if_pos s W + N ≡ P + if_neg s W → Near f r P N E
near_intro f r s g W P N E t v x y e =
    let p = parts_of_value f r s g v in
    let b = between s (pos_part f r) (neg_part f r) g W P N E p.1 p.2 x y e in
    record { ok = record { finite = p.0; fits = t }; upper = b.0; lower = b.1 }
