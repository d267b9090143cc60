-- The paper, 'Records': the ranges of demand 3, as floats compare: T <= 16, ln entries 1..w in 0..16, f entries 1..w in 0..1,048,576.
use Rattle.std.specs.Prelude.{ℕ, zero, suc, ◌≤◌, ◌<◌, Bool, true, ◌&&◌, List, get_or, T, Float}
use Rattle.std.specs.Float.{nan, binary64}
use Rattle.std.specs.Float.Ieee.{fits, le, lt}
use Rattle.floats.specs.Binary64.{zero64, sixteen, two_to20}
use Rattle.scans.specs.Setup.{Setup, ln_at, f_at}

abbrev pub between : Float → Float → Bool
between high x = le zero64 x && le x high

-- Entries 1..m of a table lie in 0..high.
unfoldable pub table_in_range : Float → List Float → ℕ → Bool
table_in_range high table zero = true
table_in_range high table (suc m) = table_in_range high table m && between high (get_or table (suc m) nan)

unfoldable pub in_range : Setup → Bool
in_range S =
    le S.score_threshold sixteen && (table_in_range sixteen S.ln S.window_size && table_in_range two_to20 S.f S.window_size)

-- What the checks and the lent slices give of a setup: w in 1..65,535, T above 0, and every float that is read one of 64 bits.
pub record CheckedSetup (S : Setup) : Type 0 where
  pub window_small : S.window_size ≤ 65535
  pub window_some : 0 < S.window_size
  pub t_fits : T (fits binary64 S.score_threshold)
  pub t_above : T (lt zero64 S.score_threshold)
  pub ln_fits : (c : ℕ) → c ≤ S.window_size → T (fits binary64 (ln_at S c))
  pub f_fits : (l : ℕ) → l ≤ S.window_size → T (fits binary64 (f_at S l))
