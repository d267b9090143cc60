use Rattle.std.specs.Prelude.{IfSome, ◌++◌, ◌∷◌, []}
use Rattle.entries.specs.Held.{lengths_of}
use Rattle.entries.proofs.Steps.{SoFar}
use Rattle.entries.proofs.reading.read_lines.Given as goal

abbrev pub invariant-loop : goal.invariant-loop
invariant-loop g l = IfSome (g.R.Read.remaining l.initial.reader)
    (λ xs. SoFar l.cr xs (g.R.Read.remaining l.reader) l.letters.items (lengths_of (l.runs.items ++ l.run ∷ [])))
