-- T and the tables as whole numbers, in units of 2^-32.
use Rattle.std.specs.Prelude.{ℕ, ◌+◌, ◌/◌, ◌%◌, from_bits, Float}
use Rattle.std.specs.Float.{binary64, float_to_unsigned}
use Rattle.std.specs.Float.Ieee.{mul}
use Rattle.std.specs.Int.{w64}

-- 2^33.
abbrev pub two_to_33 : Float
two_to_33 = from_bits binary64 0x4200_0000_0000_0000

-- How many halves of 2^-32 there are in x, cut: 0 where x is below 0 or no number, and 2^64 - 1 where it is more.
unfoldable pub halves : Float → ℕ
halves x = float_to_unsigned w64 (mul binary64 x two_to_33)

-- x times 2^32, rounded to the nearest whole number, a half up. The product with 2^33 is exact.
unfoldable pub units : Float → ℕ
units x = halves x / 2 + halves x % 2
