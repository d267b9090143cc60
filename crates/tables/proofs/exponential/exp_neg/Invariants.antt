-- `exp_neg`: the loop takes 1 off as long as `exp_from` does.
use Rattle.std.proofs.Common.{◌≡◌, ◌-◌, ◌≤◌}
use Rattle.tables.specs.Exp.{exp_from, exp_neg}
use Rattle.tables.proofs.exponential.exp_neg.Given as goal

abbrev pub invariant-loop-a : goal.invariant-loop-a
invariant-loop-a l = (l.a ≤ 30) × (exp_from (30 - l.a) l.a l.rest ≡ exp_neg l.v)

abbrev pub decreases-loop-a : goal.decreases-loop-a
decreases-loop-a l = 30 - l.a
