-- what is left of the product
use Rattle.std.proofs.Common.{◌≡◌, ◌-◌}
use Rattle.tables.specs.Exp.{times}
use Rattle.tables.proofs.exponential.times.Given as goal

abbrev pub invariant-loop : goal.invariant-loop
invariant-loop l = times (l.n - l.counter) l.b l.y ≡ times l.n l.b l.x
