use Rattle.std.proofs.Common.{◌/◌}
use Rattle.step.proofs.Moving.{count_room, joined}
use Rattle.step.proofs.window.Window.join.Goals as goal

pub sum_with-requires : goal.sum_with-requires
sum_with-requires c =
    let n = count_room c.requires.windowed c.requires.len_bound.0 (c.args.entry / 2) in
    (rw c.requires.windowed.counts_long c.requires.len_bound.1, n.0, n.1)

pub returns : goal.returns
returns c = joined c.requires.windowed c.requires.len_bound.0 c.requires.len_bound.1 c.ring_index-i.ensures c.sum_with.ensures.0 c.sum_with.ensures.1
