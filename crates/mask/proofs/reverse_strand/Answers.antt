use Rattle.std.proofs.Common.{length-take-le}
use Rattle.mask.proofs.Strands.{reversed_whole, other_some}
use Rattle.mask.proofs.reverse_strand.Goals as goal

pub returns-clause-list : goal.returns-clause-list
returns-clause-list c =
    other_some _ _ c.args.codes.now _ _ _ c.if-forward_only.false
    (reversed_whole c.args.codes.now _ _ c.reverse_complement_encoded_sequence.ensures (length-take-le _ c.args.work.now.reverse_codes.now c.requires.room.codes))
    c.strand_list.ensures.list
