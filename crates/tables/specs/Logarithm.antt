-- The true logarithm of a whole number n, between two whole numbers and as the limit of exact sums, and what it is for a float to be within 2^-45 of it.
-- For every e, ln n = e ln 2 + ln (n / 2^e). The series of specs/Series.antt gives ln 2 at z = 1 / 3, and ln (n / 2^e) at z = (n - 2^e) / (n + 2^e);
-- for n below 2^e, ln (n / 2^e) is minus ln (2^e / n), which it gives at z = (2^e - n) / (n + 2^e).
-- Both cases are written as one: `-` of natural numbers stops at 0, so the series that is not wanted has z = 0, and its logarithm is 0.
use Rattle.std.specs.Prelude.{ℕ, ◌+◌, ◌-◌, ◌*◌, ◌^◌, ◌≤◌, ◌<◌, List, get_or, ℤ, pos, ◌+ℤ◌, ◌-ℤ◌, ◌*ℤ◌, ◌≤ℤ◌, Float}
use Rattle.std.specs.Float.{nan, binary64}
use Rattle.floats.specs.Value.{Finite}
use Rattle.floats.specs.Binary64.{one, value64}
use Rattle.tables.specs.Series.{lower, upper, over, total}

-- ---- ln n lies between these two, made of k terms of each series, for every k and e.
unfoldable pub ln_lower : ℕ → ℕ → ℕ → ℤ
ln_lower k n e = pos (e * lower 1 3 k + lower (n - 2 ^ e) (n + 2 ^ e) k) -ℤ pos (upper (2 ^ e - n) (n + 2 ^ e) k)

unfoldable pub ln_upper : ℕ → ℕ → ℕ → ℤ
ln_upper k n e = pos (e * upper 1 3 k + upper (n - 2 ^ e) (n + 2 ^ e) k) -ℤ pos (lower (2 ^ e - n) (n + 2 ^ e) k)

-- ---- The first m terms of each series exactly: ln_total / ln_over, whose limit is ln n for every e.
unfoldable pub ln_over : ℕ → ℕ → ℕ → ℕ
ln_over m n e = over 3 m * over (n + 2 ^ e) m

unfoldable pub ln_total : ℕ → ℕ → ℕ → ℤ
ln_total m n e = pos (e * total 1 3 m * over (n + 2 ^ e) m + total (n - 2 ^ e) (n + 2 ^ e) m * over 3 m) -ℤ pos (total (2 ^ e - n) (n + 2 ^ e) m * over 3 m)

-- The exact sum of m terms lies between the ends of k terms.
pub record Between (k m n e : ℕ) : Type 0 where
  pub low : (ln_lower k n e *ℤ pos (ln_over m n e)) ≤ℤ (ln_total m n e *ℤ pos one)
  pub high : (ln_total m n e *ℤ pos one) ≤ℤ (ln_upper k n e *ℤ pos (ln_over m n e))

-- ---- 2^-45, which is 2^1029 units.
unfoldable pub margin : ℕ
margin = 2 ^ 1029

-- x is at most 2^-45 away from the exact sum of m terms.
pub record NearSum (m n e : ℕ) (x : Float) : Type 0 where
  pub low : ((value64 x -ℤ pos margin) *ℤ pos (ln_over m n e)) ≤ℤ (ln_total m n e *ℤ pos one)
  pub high : (ln_total m n e *ℤ pos one) ≤ℤ ((value64 x +ℤ pos margin) *ℤ pos (ln_over m n e))

-- x is a number within 2^-45 of ln n, in two ways, for some e.
-- By the ends of 20 terms: x is at most 2^-45 above the lower one and at most 2^-45 below the upper one, and ln n lies between them.
-- By the limit: x is at most 2^-45 away from every exact sum of 20 terms or more, and so from their limit, whatever the bound of the remainder.
pub record WithinLn (n : ℕ) (x : Float) : Type 0 where
  pub e : ℕ
  pub ok : Finite binary64 x
  pub low : value64 x ≤ℤ (ln_lower 20 n e +ℤ pos margin)
  pub high : ln_upper 20 n e ≤ℤ (value64 x +ℤ pos margin)
  pub sums : (m : ℕ) → 20 ≤ m → NearSum m n e x

-- Each of the entries 1..w of an ln table.
pub record EntriesWithin (w : ℕ) (ln : List Float) : Type 0 where
  pub entry : (n : ℕ) → 0 < n → n ≤ w → WithinLn n (get_or ln n nan)
