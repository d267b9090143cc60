use Rattle.scans.specs.Terms.Run.{as_setup}
use Rattle.scans.proofs.ForwardScan.{Forwarding}
use Rattle.scans.proofs.forward.forward_part.Given as goal

abbrev pub invariant-loop-i : goal.invariant-loop-i
invariant-loop-i l = Forwarding (as_setup l.setup) l.limit l.start l.from l.part l.initial.st l.initial.scan_counts l.i l.st l.scan_counts
