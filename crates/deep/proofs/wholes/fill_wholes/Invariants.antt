use Rattle.std.proofs.Common.{◌≡◌, ℕ, ◌<◌, ◌≤◌, get_or}
use Rattle.std.specs.Float.{nan}
use Rattle.deep.specs.Scores.{whole}
use Rattle.deep.proofs.wholes.fill_wholes.Given as goal

abbrev pub invariant-loop-i : goal.invariant-loop-i
invariant-loop-i l =
    (get_or l.table 0 0 ≡ 0)
    × ((j : ℕ) → 0 < j → j < l.i → get_or l.table j 0 ≡ whole (get_or l.floats j nan))
    × ((j : ℕ) → l.i ≤ j → get_or l.table j 0 ≡ 0)
