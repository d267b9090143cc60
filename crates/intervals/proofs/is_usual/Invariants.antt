-- what is to be tested of the list is what is to be tested from the index on
use Rattle.std.proofs.Common.{◌≡◌, drop}
use Rattle.intervals.specs.Interval.{usual, usual_from}
use Rattle.intervals.proofs.is_usual.Given as goal

abbrev pub invariant-loop-interval : goal.invariant-loop-interval
invariant-loop-interval l = usual l.n l.list ≡ usual_from l.n l.lo (drop l.interval-index l.list)
