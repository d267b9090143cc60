use Rattle.std.specs.Prelude.{IfSome}
use Rattle.entries.proofs.Steps.{Passed}
use Rattle.entries.proofs.reading.find_header.Given as goal

abbrev pub invariant-loop : goal.invariant-loop
invariant-loop g l = IfSome (g.R.Read.remaining l.initial.reader) (λ xs. Passed l.cr xs (g.R.Read.remaining l.reader))
