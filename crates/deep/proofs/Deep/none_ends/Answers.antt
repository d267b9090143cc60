use Rattle.std.proofs.Common.{arith}
use Rattle.scans.specs.Terms.Run.{entries_of}
use Rattle.scans.proofs.Rings.{entries_long}
use Rattle.deep.proofs.Falling.{none_but}
use Rattle.deep.proofs.Deep.none_ends.Goals as goal

pub returns-clause-told : goal.returns-clause-told
returns-clause-told c t = none_but c.args.scale.now (entries_of c.args.ring.now) c.args.middle (omega (arith, entries_long c.args.ring.now, c.requires.inside)) (c.newest_short-told.ensures t)
