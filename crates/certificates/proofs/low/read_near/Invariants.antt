use Rattle.std.proofs.Common.{◌-◌}
use Rattle.scans.specs.Terms.Run.{as_setup, entries_of}
use Rattle.certificates.proofs.LowReading.{NearReading}
use Rattle.certificates.proofs.low.read_near.Given as goal

abbrev pub invariant-loop-l : goal.invariant-loop-l
invariant-loop-l l = NearReading (as_setup l.setup) (entries_of l.ring) l.age l.low.score (l.l - 1) l.st l.bound l.scan_counts
