-- the last interval of a list inside n letters has its start and its end there
use Rattle.std.proofs.Common.{◌-◌, arith}
use Rattle.intervals.proofs.Slice.{inside_at}
use Rattle.intervals.proofs.pick_reverse.Goals as goal

pub overflow_sub-part : goal.overflow_sub-part
overflow_sub-part c = (inside_at c.args.n c.args.reverse.now (c.args.j - 1) c.requires.inside (omega arith)).1

pub overflow_sub-part-2 : goal.overflow_sub-part-2
overflow_sub-part-2 c = (inside_at c.args.n c.args.reverse.now (c.args.j - 1) c.requires.inside (omega arith)).0
