use Rattle.strands.proofs.Reading.{ReadTo}
use Rattle.strands.proofs.bytes.read_list.Given as goal

abbrev pub invariant-loop-i : goal.invariant-loop-i
invariant-loop-i l = ReadTo l.bytes l.i l.list.items
