use Rattle.std.proofs.Common.{rules}
use Rattle.entries.proofs.Sending.{sent_as}
use Rattle.forms.proofs.Blocks.{bedgraph_as}
use Rattle.forms.proofs.bedgraph.write_bedgraph.Goals as goal

pub returns-in-Ok : goal.returns-in-Ok
returns-in-Ok g c = sent_as _ _ _ _ c.write_each.result (bedgraph_as _ _ _ _ _ _ _ _ c.name.ensures c.in-Ok.ensures (search rules) c.max.ensures) c.write_each.ensures
