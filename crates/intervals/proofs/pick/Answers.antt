-- each of the four answers is the first interval of what remains
use Rattle.std.proofs.Common.{◌-◌, arith}
use Rattle.intervals.proofs.Slice.{inside_at}
use Rattle.intervals.proofs.PickSteps.{forward_only, reverse_only, forward_first, reverse_first}
use Rattle.intervals.proofs.pick.Goals as goal

pub returns-then-j-eq0 : goal.returns-then-j-eq0
returns-then-j-eq0 c = forward_only c.args.forward.now c.args.reverse.now (omega arith) c.if-j-eq0.true c.pick_forward.ensures

pub returns-then-i-forward : goal.returns-then-i-forward
returns-then-i-forward c =
    reverse_only c.args.forward.now c.args.reverse.now c.if-i-forward.true (omega arith) (omega arith) c.pick_reverse.ensures

pub overflow_sub-n : goal.overflow_sub-n
overflow_sub-n c = (inside_at c.args.n c.args.reverse.now (c.args.j - 1) c.requires.inside (omega arith)).1

pub returns-then-forward-i : goal.returns-then-forward-i
returns-then-forward-i c =
    forward_first c.args.forward.now c.args.reverse.now (omega arith) (omega arith) (omega arith) c.if-forward-i.true
    c.pick_forward-then-forward-i.ensures

pub returns : goal.returns
returns c =
    reverse_first c.args.forward.now c.args.reverse.now (omega arith) (omega arith) (omega arith) c.if-forward-i.false
    c.pick_reverse-2.ensures
