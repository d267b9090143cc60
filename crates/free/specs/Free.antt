-- Where a probe may stand: the letters inside regions that are bases and have letters enough between them and every masked one.
use Rattle.std.specs.Prelude.{ℕ, ◌+◌, Bool, false, not, ◌&&◌, ◌||◌, List, [], ◌∷◌, nat_lt, leb, ltb, length, get_or}
use Rattle.letters.specs.Code.{code}
use Rattle.intervals.specs.declared.Interval.{Interval}
use Rattle.intervals.specs.Interval.{covered}
use Rattle.join.specs.Stretches.{stretches}

-- A, C, G, T or U, in either case.
abbrev pub is_base : ℕ → Bool
is_base b = nat_lt (code b) 4

-- Letter x lies in an interval of the list, or at most `pad` letters beside one.
unfoldable pub near : ℕ → List Interval → ℕ → Bool
near pad [] x = false
near pad (i ∷ is) x = (leb i.start (x + pad) && ltb x (i.end + pad)) || near pad is x

-- Letter x of s may be a probe's. The regions stand in any order; they may touch and overlap.
abbrev pub is_free : ℕ → List Interval → List Interval → List ℕ → ℕ → Bool
is_free pad regions mask s x = covered regions x && (is_base (get_or s x 0) && not (near pad mask x))

-- The longest stretches of such letters.
unfoldable pub free : ℕ → List Interval → List Interval → List ℕ → List Interval
free pad regions mask s = stretches (is_free pad regions mask s) (length s)
