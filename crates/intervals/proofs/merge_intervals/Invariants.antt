use Rattle.intervals.proofs.MergeSteps.{Merging}
use Rattle.intervals.proofs.merge_intervals.Given as goal

abbrev pub invariant-loop-taken : goal.invariant-loop-taken
invariant-loop-taken l = Merging l.forward l.reverse l.n l.initial.out l.out l.i l.j l.taken l.part l.count
