use Rattle.scans.specs.Terms.Run.{entries_of}
use Rattle.deep.proofs.Leaving.{held_refined}
use Rattle.deep.proofs.Deep.join.Goals as goal

pub returns-then-end-eq0 : goal.returns-then-end-eq0
returns-then-end-eq0 c = record { after = held_refined c.args.scale.now c.args.oldest (entries_of c.args.ring.now) c.count_newest.new.self _ c.count_newest.ensures.after c.refine.ensures.cells c.refine.ensures.heads c.refine.ensures.blocked }
