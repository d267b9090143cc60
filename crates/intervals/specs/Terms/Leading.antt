-- Terms of contracts: how many intervals at the front of a list pass a test, as those that end at letter x or before it.
use Rattle.std.specs.Prelude.{ℕ, suc, Bool, cond, List, [], ◌∷◌, leb}
use Rattle.intervals.specs.declared.Interval.{Interval}

unfoldable pub leading : (Interval → Bool) → List Interval → ℕ
leading p [] = 0
leading p (i ∷ is) = cond (p i) (suc (leading p is)) 0

abbrev pub ends_by : ℕ → Interval → Bool
ends_by x i = leb i.end x

abbrev pub ended : List Interval → ℕ → ℕ
ended is x = leading (ends_by x) is
