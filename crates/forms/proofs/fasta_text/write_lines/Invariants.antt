use Rattle.std.proofs.Common.{◌≡◌}
use Rattle.std.specs.Io.KnownBytes.{Appends}
use Rattle.forms.specs.Each.{each}
use Rattle.forms.specs.Terms.Runs.{left_after, run_at}
use Rattle.forms.proofs.fasta_text.write_lines.Given as goal

abbrev pub invariant-loop-j : goal.invariant-loop-j
invariant-loop-j g l = record {
  rest : l.rest ≡ left_after l.runs l.letters l.j;
  sent : Appends (g.W.Write.contents l.initial.out) (g.W.Write.contents l.out) (each (run_at l.runs l.letters) l.j);
}
