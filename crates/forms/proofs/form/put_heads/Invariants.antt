use Rattle.std.proofs.Common.{◌≡◌, map, length}
use Rattle.forms.specs.Form.{head_of, by_form}
use Rattle.forms.proofs.Writers.{UpTo}
use Rattle.forms.proofs.form.put_heads.Given as goal

abbrev pub invariant-loop-i : goal.invariant-loop-i
invariant-loop-i g l = record {
  same : length l.outs ≡ length l.initial.outs;
  sent : UpTo l.i (map (λ w. g.W.Write.contents w) l.initial.outs) (map (λ w. g.W.Write.contents w) l.outs) (by_form head_of l.forms);
}
