use Rattle.questions.proofs.Walking.{Walking}
use Rattle.forms.proofs.masked.Mask.masked.Given as goal

abbrev pub invariant-loop-k : goal.invariant-loop-k
invariant-loop-k l = Walking l.self.list.now l.range.start l.range.end l.k l.letters
