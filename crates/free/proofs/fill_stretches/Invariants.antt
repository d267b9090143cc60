use Rattle.free.proofs.Filling.{Filled}
use Rattle.free.proofs.fill_stretches.Given as goal

abbrev pub invariant-loop-i : goal.invariant-loop-i
invariant-loop-i l = Filled l.map l.list.items l.start l.end l.i
