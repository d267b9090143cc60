-- Where a probe may stand in a record: a line for each stretch that is long enough.
use Rattle.std.specs.Prelude.{ℕ, List, [], ◌∷◌, length}
use Rattle.intervals.specs.declared.Interval.{Interval}
use Rattle.intervals.specs.Interval.{interval}
use Rattle.free.specs.Free.{free}
use Rattle.forms.specs.Bed.{bed}

-- Of letters s with this mask: the stretches of letters that are bases, more than `pad` letters away from any masked one.
unfoldable pub free_lines : (pad least : ℕ) → (name s : List ℕ) → List Interval → List ℕ
free_lines pad least name s mask = bed least name (free pad (interval 0 (length s) ∷ []) mask s)
