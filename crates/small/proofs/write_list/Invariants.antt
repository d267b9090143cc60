use Rattle.small.proofs.Bytes.{Writing}
use Rattle.small.proofs.write_list.Given as goal

abbrev pub invariant-loop-i : goal.invariant-loop-i
invariant-loop-i l = Writing l.list l.initial.out l.i l.out
