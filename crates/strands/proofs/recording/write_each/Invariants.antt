use Rattle.std.proofs.Common.{◌≡◌, map, length}
use Rattle.forms.proofs.Writers.{UpTo}
use Rattle.strands.proofs.recording.write_each.Given as goal

abbrev pub invariant-loop-i : goal.invariant-loop-i
invariant-loop-i g l = record {
  same : length l.outs ≡ length l.initial.outs;
  sent : UpTo l.i (map (λ w. g.W.Write.contents w) l.initial.outs) (map (λ w. g.W.Write.contents w) l.outs) (λ i. l.bytes);
}
