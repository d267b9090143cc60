use Rattle.free.proofs.Setting.{Set}
use Rattle.free.proofs.drop_others.Given as goal
use Rattle.std.proofs.Common.{false}
use Rattle.free.proofs.Setting.{other_before}

abbrev pub invariant-loop-i : goal.invariant-loop-i
invariant-loop-i l = Set (other_before l.letters l.i) false l.initial.map l.map
