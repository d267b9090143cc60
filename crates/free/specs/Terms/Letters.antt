-- Terms of contracts: the letters of a record, each with a yes or a no.
use Rattle.std.specs.Prelude.{ℕ, Bool, false, cond, ◌&&◌, List, leb, ltb, get_or}
use Rattle.intervals.specs.declared.Interval.{Interval}

-- What letter x has; past the end, a no.
abbrev pub at : List Bool → ℕ → Bool
at map x = get_or map x false

-- Letter x has got the value, if it passes; if not, it is as it was.
abbrev pub set_where : (ℕ → Bool) → Bool → List Bool → ℕ → Bool
set_where passes value map x = cond (passes x) value (at map x)

abbrev pub between : ℕ → ℕ → ℕ → Bool
between from to x = leb from x && ltb x to
