use Rattle.std.proofs.Common.{arith}
use Rattle.short_sequences.proofs.Writing.{writing_start, share_some, writing_turn}
use Rattle.short_sequences.proofs.write_letters.Goals as goal

pub loop-place-init : goal.loop-place-init
loop-place-init c = writing_start c.requires.index_bound c.count_sequences-share.ensures

pub nonzero_div-rest : goal.nonzero_div-rest
nonzero_div-rest c = let w = c.loop-place.invariant in share_some w (omega (arith, w.fills.long))

pub nonzero_rem-rest : goal.nonzero_rem-rest
nonzero_rem-rest c = let w = c.loop-place.invariant in share_some w (omega (arith, w.fills.long))

pub loop-place-preserved : goal.loop-place-preserved
loop-place-preserved c =
    let w = c.loop-place.invariant in
    writing_turn w (omega (arith, w.fills.long)) c.letter.ensures
