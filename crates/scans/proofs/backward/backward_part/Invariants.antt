use Rattle.scans.specs.Terms.Run.{as_setup}
use Rattle.scans.proofs.BackwardScan.{Scanning}
use Rattle.scans.proofs.backward.backward_part.Given as goal

abbrev pub invariant-loop-i : goal.invariant-loop-i
invariant-loop-i l = Scanning (as_setup l.setup) l.window_counts l.quick l.len l.part l.from l.initial.st l.initial.scan_counts l.i l.st l.scan_counts
