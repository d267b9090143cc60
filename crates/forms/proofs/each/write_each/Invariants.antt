use Rattle.std.specs.Io.KnownBytes.{Appends}
use Rattle.forms.specs.Each.{each}
use Rattle.forms.proofs.each.write_each.Given as goal

abbrev pub invariant-loop-i : goal.invariant-loop-i
invariant-loop-i g l = Appends (g.W.Write.contents l.initial.out) (g.W.Write.contents l.out) (each (g.L.Lines.line l.lines) l.i)
