-- The paper, 'Letters and places', 'each float stands for its whole multiple of 2^-1074': what a finite float is worth, in units of its format's smallest positive value.
-- A NaN and an infinity are worth 0.
use Rattle.std.specs.Prelude.{ℕ, ◌*◌, ◌/◌, ◌^◌, Bool, false, cond, T, ℤ, pos, neg_ℤ, Float}
use Rattle.std.specs.Float.{nan, inf, fin, Format}
use Rattle.std.specs.Float.Ieee.{low, up, down, fits}
use Rattle.std.specs.Float.Ieee.Scale.{finite}

-- true for a minus, that of -0 included
abbrev pub sign : Float → Bool
sign nan = false
sign (inf s) = s
sign (fin s m e) = s

-- the size of m * 2 ^ e
unfoldable pub magnitude : Format → Float → ℕ
magnitude f nan = 0
magnitude f (inf s) = 0
magnitude f (fin s m e) = m * up e * 2 ^ low f / down e

unfoldable pub value : Format → Float → ℤ
value f x = cond (sign x) (neg_ℤ (pos (magnitude f x))) (pos (magnitude f x))

-- x is a number of the format: no NaN, no infinity
pub record Finite (f : Format) (x : Float) : Type 0 where
  pub finite : T (finite x)
  pub fits : T (fits f x)
