use Rattle.std.proofs.Common.{rules, ◌≤◌, ◌*◌, ◌/◌, mul-le-mul_right, div-mul-le_self}
use Rattle.std.proofs.Math.Nat.{le_trans}
use Rattle.command_line.proofs.sizes.size_by.Goals as goal

product : (c : goal.In-Some-share) → c.in-Some.n * c.args.unit ≤ 4611686018427387904
product c =
    le_trans (mul-le-mul_right {m = c.in-Some.n} {n = 4611686018427387904 / c.args.unit} c.args.unit (search rules))
    (div-mul-le_self 4611686018427387904 c.args.unit)

pub overflow_mul-result : goal.overflow_mul-result
overflow_mul-result c = let p = product c in search rules

pub overflow_add-result : goal.overflow_add-result
overflow_add-result c = let p = product c in search rules
