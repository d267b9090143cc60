-- A list that is written with marks: which slices it is written to.
use Rattle.std.specs.Prelude.{◌≡◌}
use Rattle.intervals.specs.declared.output.MarksOut.{MarksOut}

-- The same slices are lent.
pub record SameOut (old new : MarksOut) : Type 0 where
  pub list : new.list.ghost_name ≡ old.list.ghost_name
  pub marks : new.marks.ghost_name ≡ old.marks.ghost_name
