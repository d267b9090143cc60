-- The paper, 'Records', 'Letters and places' and 'Step and scans': 64-bit floats in units of 2^-1074, the ranges of demand 3, the paper's numbers as floats, and the test 'within 1e-9'.
use Rattle.std.specs.Prelude.{ℕ, ◌^◌, Bool, ◌&&◌, ℤ, pos, from_bits, Float}
use Rattle.std.specs.Float.{binary64}
use Rattle.std.specs.Float.Ieee.{of_int, lt, neg}
use Rattle.floats.specs.Value.{value}

-- ---- units of 2 ^ -1074
-- the number 1
unfoldable pub one : ℕ
one = 2 ^ 1074

abbrev pub value64 : Float → ℤ
value64 x = value binary64 x

-- ---- numbers as floats
abbrev pub number : ℕ → Float
number n = of_int binary64 (pos n)

abbrev pub zero64 : Float
zero64 = from_bits binary64 0

-- 0.5
abbrev pub half64 : Float
half64 = from_bits binary64 0x3fe0_0000_0000_0000

-- 1.0
abbrev pub one64 : Float
one64 = from_bits binary64 0x3ff0_0000_0000_0000

-- 2.0
abbrev pub two64 : Float
two64 = from_bits binary64 0x4000_0000_0000_0000

-- 1e-9, within which of the best a peak is noted
abbrev pub tiny : Float
tiny = from_bits binary64 0x3e11_2e0b_e826_d695

-- 1e-6, the most by which a forward scan passes its candidate's score and goes on
abbrev pub slack : Float
slack = from_bits binary64 0x3eb0_c6f7_a0b5_ed8d

-- 16, the most that T and an ln entry may be
abbrev pub sixteen : Float
sixteen = from_bits binary64 0x4030_0000_0000_0000

-- 1,048,576, the most that an f entry may be
abbrev pub two_to20 : Float
two_to20 = from_bits binary64 0x4130_0000_0000_0000

-- ---- |x| < 1e-9, no for a NaN
abbrev pub near_zero : Float → Bool
near_zero x = lt x tiny && lt (neg tiny) x
