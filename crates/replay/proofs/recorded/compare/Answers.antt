use Rattle.replay.proofs.Following.{then}
use Rattle.replay.proofs.recorded.compare.Goals as goal

pub returns-in_err-intervals : goal.returns-in_err-intervals
returns-in_err-intervals c = then c.number.ensures.follows (then c.flag.ensures.follows (then c.number-2.ensures.follows c.intervals.ensures))

pub returns : goal.returns
returns c = then c.number.ensures.follows (then c.flag.ensures.follows (then c.number-2.ensures.follows c.intervals.ensures))
