-- The letters that pass a test, as a list of intervals.
use Rattle.std.specs.Prelude.{ℕ, zero, suc, ◌+◌, Bool, cond, List, []}
use Rattle.intervals.specs.declared.Interval.{Interval}
use Rattle.intervals.specs.Save.{save}

-- Of n letters those that pass, saved one after another: their longest stretches.
unfoldable pub stretches : (ℕ → Bool) → ℕ → List Interval
stretches f zero = []
stretches f (suc x) = let is : List Interval = stretches f x in cond (f x) (save is x (x + 1)) is
