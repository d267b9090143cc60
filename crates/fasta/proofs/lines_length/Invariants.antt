-- the index, and what is still counted
use Rattle.std.proofs.Common.{◌≡◌, ◌+◌, true, drop}
use Rattle.fasta.specs.Terms.Lengths.{lines_length}
use Rattle.fasta.proofs.lines_length.Given as goal

abbrev pub invariant-loop-i : goal.invariant-loop-i
invariant-loop-i l = l.i + lines_length l.fresh (drop l.i l.rest) ≡ lines_length true l.rest
