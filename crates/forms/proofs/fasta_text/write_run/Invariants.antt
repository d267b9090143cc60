use Rattle.std.proofs.Common.{◌≡◌}
use Rattle.std.specs.Io.KnownBytes.{Appends}
use Rattle.forms.specs.Each.{each}
use Rattle.forms.specs.Terms.Runs.{left, line_at}
use Rattle.forms.proofs.fasta_text.write_run.Given as goal

abbrev pub invariant-loop-i : goal.invariant-loop-i
invariant-loop-i g l = record {
  rest : l.rest ≡ left l.i l.run.letters l.letters;
  sent : Appends (g.W.Write.contents l.initial.out) (g.W.Write.contents l.out) (each (line_at l.run.letters l.letters) l.i);
}
