use Rattle.std.proofs.Common.{◌-◌}
use Rattle.scans.specs.Terms.Run.{as_setup, entries_of}
use Rattle.certificates.proofs.LowReading.{LowReading}
use Rattle.certificates.proofs.low.read_low.Given as goal

abbrev pub invariant-loop-l : goal.invariant-loop-l
invariant-loop-l l = LowReading (as_setup l.setup) (entries_of l.ring) (l.l - 1) l.st l.score l.scan_counts
