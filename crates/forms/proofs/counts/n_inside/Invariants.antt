use Rattle.std.proofs.Common.{◌≡◌}
use Rattle.forms.specs.Counts.{n_upto}
use Rattle.forms.proofs.counts.n_inside.Given as goal

abbrev pub invariant-loop-k : goal.invariant-loop-k
invariant-loop-k l = record { n_is : l.n ≡ n_upto l.letters l.list l.k }
