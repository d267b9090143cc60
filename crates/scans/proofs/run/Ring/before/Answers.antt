use Rattle.std.proofs.Common.{inl, inr, ◌+◌, ◌-◌, arith, length}
use Rattle.scans.proofs.Parts.{part_to}
use Rattle.scans.proofs.run.Ring.before.Goals as goal

pub returns-then-self-to : goal.returns-then-self-to
returns-then-self-to c =
    let r = c.args.self.now in
    part_to r c.args.low 0 (r.head + c.args.low - length r.queue.now) (omega (arith, c.if-self-to.true)) (omega (arith, r.head_in)) c.requires.1 (omega (arith, r.head_in, r.len_in, c.requires.1)) (inr (omega (arith, c.if-self-to.true, r.head_in)))

pub returns : goal.returns
returns c =
    let r = c.args.self.now in
    part_to r c.args.low r.head (r.head + c.args.low - r.head) (omega (arith, c.requires.0)) (omega arith) c.requires.1 (omega (arith, c.if-self-to.false)) (inl (omega arith))
