-- the blocks before the index are written, and the walk stands where the next begins
use Rattle.questions.proofs.Blocks.{Summing}
use Rattle.questions.proofs.UsualList.fill_summary.Given as goal

abbrev pub invariant-loop-i : goal.invariant-loop-i
invariant-loop-i l = Summing l.self.list.now l.initial.summary l.next l.i l.summary
