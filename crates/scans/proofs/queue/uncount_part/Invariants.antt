use Rattle.std.proofs.Common.{length}
use Rattle.scans.specs.Terms.Counted.{Counted}
use Rattle.scans.proofs.Walk.{Walking}
use Rattle.scans.proofs.queue.uncount_part.Given as goal

abbrev pub invariant-loop-entry : goal.invariant-loop-entry
invariant-loop-entry l = Walking (Counted (length l.initial.scan_counts)) l.part l.initial.scan_counts l.entry-index l.scan_counts
