use Rattle.std.proofs.Common.{◌≡◌, sym, subst, arith, Bool, true, T}
use Rattle.std.specs.Float.Ieee.{of_bits}
use Rattle.floats.specs.Terms.Rounded.{Ranged}
use Rattle.floats.proofs.Range.{ranged_20}
use Rattle.deep.proofs.Finding.{whole_small}
use Rattle.deep.proofs.wholes.whole_in_range.Goals as goal
use Rattle.deep.proofs.wholes.whole_in_range.Goals.{Then-x-2}

is_true : {b : Bool} → b ≡ true → T b
is_true {b} e = subst (λ (x : Bool). T x) (sym e) tt

ranged : (c : Then-x-2) → Ranged 1048576 c.args.x
unfolding of_bits
ranged c = ranged_20 c.args.x (is_true c.well_formed.0.1) (is_true c.if-x.true) (is_true c.if-x-2.true)

pub returns-then-x-2-clause-ranged : goal.returns-then-x-2-clause-ranged
returns-then-x-2-clause-ranged c = (ranged (goal.at.returns-then-x-2-clause-ranged c).Then-x-2, c.whole.ensures)

pub returns-then-x-2-clause-small : goal.returns-then-x-2-clause-small
returns-then-x-2-clause-small c =
    omega (arith, c.whole.ensures, whole_small c.args.x 1048576 2305843009213693952 (ranged (goal.at.returns-then-x-2-clause-small c).Then-x-2) (omega arith) (omega arith))
