use Rattle.scans.specs.Terms.Run.{as_setup}
use Rattle.scans.proofs.BackwardLow.{ScanningLow}
use Rattle.scans.proofs.backward.backward_low.Given as goal

abbrev pub invariant-loop-i : goal.invariant-loop-i
invariant-loop-i l = ScanningLow (as_setup l.setup) l.window_counts l.quick l.len l.part l.initial.st l.initial.scan_counts l.i l.st l.scan_counts
