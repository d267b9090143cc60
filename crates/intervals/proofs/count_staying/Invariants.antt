-- what stays of all intervals is what stays of the first k
use Rattle.std.proofs.Common.{◌≡◌, length}
use Rattle.intervals.specs.Save.{staying}
use Rattle.intervals.proofs.count_staying.Given as goal

abbrev pub invariant-loop-k : goal.invariant-loop-k
invariant-loop-k l = staying l.list l.start l.k ≡ staying l.list l.start (length l.list)
