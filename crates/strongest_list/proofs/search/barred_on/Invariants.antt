-- The letters before x are not barred.
use Rattle.std.proofs.Common.{ℕ, ◌≤◌, ◌<◌, get_or}
use Rattle.strongest_list.proofs.search.barred_on.Given as goal

abbrev pub invariant-loop-x : goal.invariant-loop-x
invariant-loop-x l = (y : ℕ) → l.from ≤ y → y < l.x → get_or l.codes y 5 < 5
