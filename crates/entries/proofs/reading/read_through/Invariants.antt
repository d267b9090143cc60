use Rattle.std.specs.Prelude.{◌≢◌, All, length, drop}
use Rattle.std.specs.Io.{StartsWith}
use Rattle.std.specs.Io.KnownBytes.{Consumes}
use Rattle.entries.proofs.reading.read_through.Given as goal

-- No line has ended so far.
abbrev pub invariant-loop : goal.invariant-loop
invariant-loop g l =
    StartsWith l.line.items l.initial.line.items
    × All (λ x. x ≢ 10) (drop (length l.initial.line.items) l.line.items)
    × Consumes (g.R.Read.remaining l.initial.reader) (g.R.Read.remaining l.reader) (drop (length l.initial.line.items) l.line.items)
