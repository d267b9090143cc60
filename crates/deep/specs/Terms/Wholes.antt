-- Terms of contracts: a table in whole numbers, and those of a setup.
use Rattle.std.specs.Prelude.{◌≡◌, ℕ, ◌+◌, ◌<◌, List, get_or, Float}
use Rattle.std.specs.Float.{nan}
use Rattle.scans.specs.Setup.{Setup}
use Rattle.deep.specs.Scores.{whole}

-- Entries 1 .. w of the table of floats in whole numbers; the others are 0.
pub record Wholes (w : ℕ) (floats : List Float) (table : List ℕ) : Type 0 where
  pub none : get_or table 0 0 ≡ 0
  pub entry : (i : ℕ) → 0 < i → i < w + 1 → get_or table i 0 ≡ whole (get_or floats i nan)
  pub rest : (i : ℕ) → w < i → get_or table i 0 ≡ 0

-- The setup's numbers: T and both tables.
pub record Scaled (S : Setup) (t : ℕ) (ln f : List ℕ) : Type 0 where
  pub t_is : t ≡ whole S.score_threshold
  pub ln_is : Wholes S.window_size S.ln ln
  pub f_is : Wholes S.window_size S.f f
