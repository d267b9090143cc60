use Rattle.replay.specs.Words.{Follows}
use Rattle.replay.proofs.recorded.intervals.Given as goal

abbrev pub invariant-loop-i : goal.invariant-loop-i
invariant-loop-i l = Follows l.initial.words.rest.now l.words.rest.now
