-- What the laws of rounding speak of: a value as two naturals of which one is 0, so that a fact on values is a linear fact on naturals, and how far a rounded number strays, and a running sum.
use Rattle.std.specs.Prelude.{◌≡◌, ℕ, ◌+◌, ◌*◌, ◌^◌, ◌≤◌, cond, Float}
use Rattle.std.specs.Float.{binary64, Format}
use Rattle.floats.specs.Value.{sign, magnitude, Finite}
use Rattle.floats.specs.Binary64.{one}

-- value = pos_part - neg_part
unfoldable pub pos_part : Format → Float → ℕ
pos_part f x = cond (sign x) 0 (magnitude f x)

unfoldable pub neg_part : Format → Float → ℕ
neg_part f x = cond (sign x) (magnitude f x) 0

-- r is a number of the format, and at most E units away from P - N
pub record Near (f : Format) (r : Float) (P N E : ℕ) : Type 0 where
  pub ok : Finite f r
  pub upper : pos_part f r + N ≤ P + neg_part f r + E
  pub lower : P + neg_part f r ≤ pos_part f r + N + E

-- 2 ^ -54: a rounding of a number of size at most 2 ^ M is off by at most 2 ^ M of these
unfoldable pub eps : ℕ
eps = 2 ^ 1020

abbrev pub pos64 : Float → ℕ
pos64 x = pos_part binary64 x

abbrev pub neg64 : Float → ℕ
neg64 x = neg_part binary64 x

-- a number from 0 to B, -0 included
pub record Ranged (B : ℕ) (x : Float) : Type 0 where
  pub ok : Finite binary64 x
  pub high : pos64 x ≤ B * one
  pub low : neg64 x ≡ 0

-- ---- i * 2 ^ -33, for i steps of two roundings each, and 2 ^ -34, for one rounding
abbrev pub err : ℕ → ℕ
err i = i * (2097152 * eps)

abbrev pub half : ℕ
half = 1048576 * eps

-- ---- the scans: after i places s is within i * 2 ^ -33 of the exact sum P - N, which is at most i * 16 in size
pub record After (i : ℕ) (s : Float) (P N : ℕ) : Type 0 where
  pub near : Near binary64 s P N (err i)
  pub high : P ≤ N + i * (16 * one)
  pub low : N ≤ P + i * (16 * one)
