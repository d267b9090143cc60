-- A run on one sequence, by tables that are filled once.
use Rattle.std.specs.Prelude.{ℕ, ◌≤◌, ◌≡◌, List, length, Float}
use Rattle.tables.specs.Density.{uniform}
use Rattle.tables.specs.Tables.{ln_table, f_table}
use Rattle.intervals.specs.declared.Interval.{Interval}

-- The tables that every run reads, whatever its sequence is. Not a field of a type: they go to the masking call as `longdust::Tables`, which may hold any.
pub record Filled (ln f : List Float) : Type 0 where
  pub ln_is : ln ≡ ln_table 8
  pub f_is : f ≡ f_table 1 8 (uniform 1)

-- A run on up to 8 letters, with room for its list.
pub record Short (s : List ℕ) (ln f : List Float) (xs : List Interval) : Type 0 where
  pub letters : length s ≤ 8
  pub tables : Filled ln f
  pub room : length xs ≡ 4
