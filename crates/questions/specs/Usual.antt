-- A list of the usual kind, in a sequence of any accepted length.
use Rattle.std.specs.Prelude.{List}
use Rattle.intervals.specs.declared.Interval.{Interval}
use Rattle.intervals.specs.Interval.{Canonical}

abbrev pub UsualKind : List Interval → Type 0
UsualKind is = Canonical 2147483647 1 is
