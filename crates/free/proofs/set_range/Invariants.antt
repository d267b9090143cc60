use Rattle.std.proofs.Common.{◌≤◌, max}
use Rattle.free.proofs.Setting.{Set}
use Rattle.free.specs.Terms.Letters.{between}
use Rattle.free.proofs.set_range.Given as goal

abbrev pub invariant-loop-i : goal.invariant-loop-i
invariant-loop-i l = Set (between l.from l.i) l.value l.initial.map l.map × (l.i ≤ max l.from l.to)
