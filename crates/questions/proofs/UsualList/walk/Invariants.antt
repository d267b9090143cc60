-- the letters of the intervals before k are counted
use Rattle.questions.proofs.Walking.{Walking}
use Rattle.questions.proofs.UsualList.walk.Given as goal

abbrev pub invariant-loop-k : goal.invariant-loop-k
invariant-loop-k l = Walking l.self.list.now l.range.start l.range.end l.k l.letters
