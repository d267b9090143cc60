-- The paper, 'Tables and the program': ln.
use Rattle.std.specs.Prelude.{ℕ, zero, suc, ◌+◌, ◌-◌, ◌*◌, true, false, cond, ℤ, pos, ◌+ℤ◌, from_bits, Float}
use Rattle.std.specs.Float.{nan, inf, fin, binary64}
use Rattle.std.specs.Float.Ieee.{lt, of_int, minus, size}
use Rattle.floats.specs.Arithmetic.{◌⊕◌, ◌⊖◌, ◌⊗◌, ◌⊘◌}
use Rattle.floats.specs.Binary64.{number, one64, two64}
use Rattle.tables.specs.Countdown.{countdown}

-- 21.0
abbrev pub twenty_one : Float
twenty_one = from_bits binary64 0x4035_0000_0000_0000

-- 0.6931471805599453
abbrev pub ln2 : Float
ln2 = from_bits binary64 0x3fe6_2e42_fefa_39ef

-- 1.4142135623730951
abbrev pub root2 : Float
root2 = from_bits binary64 0x3ff6_a09e_667f_3bcd

abbrev pub infinity : Float
infinity = from_bits binary64 0x7ff0_0000_0000_0000

-- h = h times q + 1/d
unfoldable pub ln_step : Float → ℕ → Float → Float
ln_step q j h = h ⊗ q ⊕ one64 ⊘ number (2 * j + 1)

-- h = 1/21; for d = 19, 17 .. 1
unfoldable pub ln_series : Float → Float
ln_series q = countdown (ln_step q) 10 (one64 ⊘ twenty_one)

-- e times 0.6931471805599453 + (2z) times h
unfoldable pub ln_parts : Float → ℤ → Float
ln_parts m e =
    let z = (m ⊖ one64) ⊘ (m ⊕ one64) in
    of_int binary64 e ⊗ ln2 ⊕ two64 ⊗ z ⊗ ln_series (z ⊗ z)

-- If m > 1.4142135623730951, halve m and add 1 to e.
unfoldable pub ln_scaled : Float → ℤ → Float
ln_scaled m e = cond (lt root2 m) (ln_parts (m ⊘ two64) (e +ℤ pos 1)) (ln_parts m e)

-- x = m times 2^e, 1 <= m < 2: a significand k with s + 1 binary digits is (k / 2^s) times 2^s.
-- Where the paper is silent, as the Rust's ln: of plus infinity it is plus infinity, of a negative number and of not-a-number it is not-a-number.
unfoldable pub ln_of : Float → Float
ln_of nan = nan
ln_of (inf s) = cond s nan (inf false)
ln_of (fin s zero j) = inf true
ln_of (fin true (suc k) j) = nan
ln_of (fin false (suc k) j) =
    let s = size (suc k) - 1 in
    ln_scaled (fin false (suc k) (minus 0 s)) (j +ℤ pos s)
