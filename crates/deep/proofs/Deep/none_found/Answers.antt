use Rattle.std.proofs.Common.{arith}
use Rattle.scans.specs.Terms.Run.{entries_of}
use Rattle.scans.proofs.Rings.{entries_long}
use Rattle.deep.proofs.Finding.{finds_none}
use Rattle.deep.proofs.Deep.none_found.Goals as goal

pub returns-clause-told : goal.returns-clause-told
returns-clause-told c t = finds_none c.args.scale.now (entries_of c.args.ring.now) (omega (arith, entries_long c.args.ring.now, c.requires.nonempty, c.requires.window_small)) (c.older_low.ensures.low.told t)
