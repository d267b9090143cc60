use Rattle.scans.specs.Terms.Counted.{Touched}
use Rattle.scans.proofs.Walk.{Walking}
use Rattle.scans.proofs.queue.clear_part.Given as goal

abbrev pub invariant-loop-entry : goal.invariant-loop-entry
invariant-loop-entry l = Walking Touched l.part l.initial.scan_counts l.entry-index l.scan_counts
