use Rattle.std.proofs.Common.{ℕ, ◌≡◌, cond, ◌&&◌, leb, ltb, get_or}
use Rattle.strongest_list.proofs.barring.bar_letters.Given as goal

abbrev pub invariant-loop-x : goal.invariant-loop-x
invariant-loop-x l = (x : ℕ) → get_or l.codes x 5 ≡ cond (leb l.from x && ltb x l.x) 5 (get_or l.initial.codes x 5)
