use Rattle.replay.proofs.Following.{then}
use Rattle.replay.proofs.request.table.Goals as goal

pub returns-in_err-entry : goal.returns-in_err-entry
returns-in_err-entry c = then c.number.ensures.follows (then c.loop.invariant.follows (then c.number-in-loop.ensures.follows c.float.ensures.follows))
