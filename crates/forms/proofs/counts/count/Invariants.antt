use Rattle.std.proofs.Common.{◌≡◌, ◌*◌, take}
use Rattle.std.specs.List.{count_by}
use Rattle.forms.proofs.counts.count.Given as goal

abbrev pub invariant-loop-k : goal.invariant-loop-k
invariant-loop-k g l = record {
  n_is : l.n ≡ count_by (g.K.Kind.test l.kind) (take (224 * l.k) l.letters);
}
