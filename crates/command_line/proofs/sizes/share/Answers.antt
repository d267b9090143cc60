use Rattle.std.proofs.Common.{rules, ◌≤◌, ◌*◌, mul-le-mul}
use Rattle.command_line.proofs.sizes.share.Goals as goal

product : (c : goal.In-Some) → c.in-Some.n * c.args.unit ≤ 1099510528264372224
product c = mul-le-mul {n₁ = c.in-Some.n} {m₁ = c.args.unit} {n₂ = 999999} {m₂ = 1099511627776} (search rules) (search rules)

pub overflow_mul-result : goal.overflow_mul-result
overflow_mul-result c = let p = product c in search rules
