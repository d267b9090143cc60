use Rattle.scans.proofs.Parts.{in_parts}
use Rattle.scans.proofs.run.Ring.parts.Goals as goal

pub returns : goal.returns
returns c = in_parts _ _ _ _ _ c.requires.0 c.requires.1 c.end-a.ensures c.end-b.ensures
