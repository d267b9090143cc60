use Rattle.std.proofs.Common.{◌≡◌, ◌≤◌, take}
use Rattle.std.specs.List.{count_by}
use Rattle.forms.proofs.counts.few.Given as goal

abbrev pub invariant-loop-i : goal.invariant-loop-i
invariant-loop-i g l = record {
  few : l.n ≤ l.i;
  n_is : l.n ≡ count_by (g.K.Kind.test l.kind) (take l.i l.letters);
}
