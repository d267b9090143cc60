use Rattle.std.proofs.Common.{◌≡◌}
use Rattle.entries.specs.Sums.{first_sums}
use Rattle.entries.proofs.sums.sums_in.Given as goal

abbrev pub invariant-loop-k : goal.invariant-loop-k
invariant-loop-k l = record { all_is : l.all ≡ first_sums l.bytes l.k }
