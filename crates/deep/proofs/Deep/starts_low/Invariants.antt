use Rattle.std.proofs.Common.{◌-◌}
use Rattle.scans.specs.Terms.Run.{entries_of}
use Rattle.deep.proofs.Starts.{Newest}
use Rattle.deep.proofs.Deep.starts_low.Given as goal

abbrev pub invariant-loop-read : goal.invariant-loop-read
invariant-loop-read l = Newest l.scale (entries_of l.ring) (l.read - 1) l.gain
