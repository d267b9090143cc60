use Rattle.replay.proofs.Following.{then}
use Rattle.replay.proofs.recorded.intervals.Goals as goal

pub loop-i-preserved : goal.loop-i-preserved
loop-i-preserved c = then c.loop-i.invariant (then c.number.ensures.follows (then c.number-in-loop-i.ensures.follows c.number-in-loop-i-2.ensures.follows))
