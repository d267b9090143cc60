use Rattle.std.proofs.Common.{◌-◌}
use Rattle.join.proofs.SweepSteps.{Sweeping}
use Rattle.join.proofs.join_lists.Given as goal

abbrev pub invariant-loop-sweep : goal.invariant-loop-sweep
invariant-loop-sweep l =
    Sweeping l.kind l.n l.ours.list.now l.ours.marks.now l.theirs l.initial.out l.out l.sweep l.start l.end l.seen l.count

abbrev pub decreases-loop-sweep : goal.decreases-loop-sweep
decreases-loop-sweep l = l.n - l.sweep.at
