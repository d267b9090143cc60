use Rattle.entries.proofs.Kept.{name_is}
use Rattle.entries.proofs.held.name.Goals as goal

pub returns : goal.returns
returns c = name_is c.args.header.now c.min.result c.name_length.result c.min.ensures c.name_length.ensures
