use Rattle.std.proofs.Common.{◌-◌}
use Rattle.scans.specs.Terms.Run.{entries_of}
use Rattle.deep.proofs.Falling.{Taken}
use Rattle.deep.proofs.Deep.newest_short.Given as goal

abbrev pub invariant-loop-read : goal.invariant-loop-read
invariant-loop-read l = Taken l.scale (entries_of l.ring) l.middle.from (l.read - 1) l.sum
