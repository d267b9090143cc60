-- what is left of the terms
use Rattle.std.proofs.Common.{◌≡◌, ◌-◌}
use Rattle.tables.specs.F.{terms_from}
use Rattle.tables.specs.F as F
use Rattle.tables.proofs.expected.terms.Given as goal

abbrev pub invariant-loop-n : goal.invariant-loop-n
invariant-loop-n l = terms_from (10001 - l.n) l.n l.lambda l.x l.sn l.y ≡ F.terms l.lambda
