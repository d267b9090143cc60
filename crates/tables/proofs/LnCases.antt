-- What the tests x > 0, x < infinity and x == 0 say of x, and ln of x where no digits are read.
use Rattle.std.proofs.Common.{◌≡◌, ℕ, zero, suc, ◌*◌, ◌<◌, Bool, true, false, ◌&&◌, ◌||◌, eqb, ltb, ℤ, sym, refl, ap, ◌∙◌, zero-lt-suc, mul-pos, zero-mul, mul-one, arith, lt-ltb, eqb-true, Float}
use mathlib.Core.Bool.{beq}
use lib.Ieee.{nan, inf, fin, binary64, lt, eq, of_bits, up, down, level}
use lib.Ieee.Fits.{up_pos}
use Rattle.floats.specs.Binary64.{zero64}
use Rattle.tables.specs.Ln.{infinity, ln_of}

clash : {X : Type 0} (b : Bool) → b ≡ true → b ≡ false → X
clash b p q = absurd (let z : ◌≡◌ {A = Bool} true false = cc in no z)
  where
    no : true ≡ false → ⊥
    no z = let n : ◌≡◌ {A = ℕ} 0 1 = cc in omega arith

-- ---- the constants
infinity_is : infinity ≡ inf false
unfolding of_bits
infinity_is = refl

-- ---- the cases
infinite : (x : Float) → lt zero64 x ≡ true → lt x (inf false) ≡ false → x ≡ ln_of x
unfolding of_bits lt ln_of
infinite nan h u = clash (lt zero64 nan) h refl
infinite (inf true) h u = clash (lt zero64 (inf true)) h refl
infinite (inf false) h u = refl
infinite (fin s m e) h u = clash (lt (fin s m e) (inf false)) refl u

some : (m : ℕ) (e : ℤ) → 0 < suc m * up e * 1
some m e = let h : 0 < suc m * up e = mul-pos (zero-lt-suc m) (up_pos e) in omega arith

none : (e : ℤ) → 0 * 1 * down e ≡ 0
none e = zero-mul (down e)

zero_number : (x : Float) → eq x zero64 ≡ true → inf true ≡ ln_of x
unfolding of_bits eq ln_of
zero_number nan h = clash (eq nan zero64) h refl
zero_number (inf s) h = clash (eq (inf s) zero64) h refl
zero_number (fin s zero e) h = refl
zero_number (fin s (suc m) e) h = absurd (no (eqb (suc m * up e * 1) (0 * 1 * down e)) refl h)
  where
    no : (b : Bool) → eqb (suc m * up e * 1) (0 * 1 * down e) ≡ b → (b && (beq s false || eqb (suc m * up e * 1) 0)) ≡ true → ⊥
    no true p q = let a = eqb-true (suc m * up e * 1) (0 * 1 * down e) p in omega (arith, some m e, none e)
    no false p q = clash false q refl

and_or : (b c : Bool) → b ≡ true → (b && (c || b)) ≡ true
and_or true true p = refl
and_or true false p = refl
and_or false c p = p

no_logarithm : (x : Float) → lt zero64 x ≡ false → eq x zero64 ≡ false → nan ≡ ln_of x
unfolding of_bits lt eq ln_of
no_logarithm nan h u = refl
no_logarithm (inf true) h u = refl
no_logarithm (inf false) h u = clash (lt zero64 (inf false)) refl h
no_logarithm (fin s zero e) h u = clash _ (same s e) u
  where
    same : (s : Bool) (e : ℤ) → level s (0 * up e * 1) false (0 * 1 * down e) ≡ true
    same s e =
        let z : 0 * up e * 1 ≡ 0 = mul-one (0 * up e) ∙ zero-mul (up e) in
        rw (z, none e) (and_or true (beq s false) refl)
no_logarithm (fin true (suc m) e) h u = refl
no_logarithm (fin false (suc m) e) h u = clash (ltb (0 * 1 * down e) (suc m * up e * 1)) (lt-ltb (0 * 1 * down e) (suc m * up e * 1) (omega (arith, some m e, none e))) h

pub ln_infinite : (x : Float) → lt zero64 x ≡ true → lt x infinity ≡ false → x ≡ ln_of x
ln_infinite x h u = infinite x h (ap (λ (t : Float). lt x t) (sym infinity_is) ∙ u)

pub ln_zero : (x : Float) → eq x zero64 ≡ true → of_bits binary64 0xfff0_0000_0000_0000 ≡ ln_of x
unfolding of_bits
ln_zero x h = zero_number x h

pub ln_none : (x : Float) → lt zero64 x ≡ false → eq x zero64 ≡ false → of_bits binary64 0x7ff8_0000_0000_0000 ≡ ln_of x
unfolding of_bits
ln_none x h u = no_logarithm x h u

-- The laws by which `ln` is proved.
pub ruleset cases = (ln_infinite, ln_zero, ln_none)
