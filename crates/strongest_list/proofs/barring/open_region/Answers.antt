-- The letters of the region are encoded over the buffer's.
use Rattle.strongest_list.proofs.Shown.{opens_region}
use Rattle.strongest_list.proofs.barring.open_region.Goals as goal

pub returns : goal.returns
returns c = opens_region c.args.sequence.now c.args.codes.now c.encode_sequence.new.encoded c.args.region c.requires.order c.requires.inside c.requires.long c.encode_sequence.ensures
