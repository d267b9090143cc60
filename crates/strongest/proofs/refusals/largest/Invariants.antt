-- `largest` meets its contract: before entry i it has the largest of those before it.
use Rattle.std.proofs.Common.{◌≡◌, ◌-◌, ◌<◌}
use Rattle.strongest.specs.Strongest.{largest}
use Rattle.strongest.proofs.refusals.largest.Given as goal

abbrev pub invariant-loop-i : goal.invariant-loop-i
invariant-loop-i l = (0 < l.i) × (l.most ≡ largest l.table (l.i - 1))
