use Rattle.report.proofs.Lines.{Listing}
use Rattle.report.proofs.text.Text.write_lines.Given as goal

abbrev pub invariant-loop-interval : goal.invariant-loop-interval
invariant-loop-interval l = Listing l.list l.initial.self l.self l.interval-index
