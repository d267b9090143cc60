-- Joining tracks: the letters of our list and of theirs, in either, in both, or in ours and outside theirs, with the marks of our intervals.
use Rattle.std.specs.Prelude.{ℕ, ◌+◌, ◌/◌, ◌%◌, min, max, Bool, false, not, ◌&&◌, ◌||◌, List, [], ◌∷◌, map, ltb, eqb, length, drop, get_or}
use Rattle.checks.specs.Checks.{Check, check, first}
use Rattle.checks.specs.Tests.{too_many_letters}
use Rattle.intervals.specs.declared.Interval.{Interval}
use Rattle.intervals.specs.Interval.{covered, usual}
use Rattle.intervals.specs.Merge.{byte_of}
use Rattle.join.specs.Stretches.{stretches}
use Rattle.join.specs.declared.Joined.{Joined}
use Rattle.join.specs.declared.Joined.TheVariants.{Either, Both, Outside}

-- Whether a letter is wanted, by whether ours covers it and whether theirs does.
abbrev pub wanted : Joined → Bool → Bool → Bool
wanted Either o t = o || t
wanted Both o t = o && t
wanted Outside o t = o && not t

abbrev pub wanted_at : Joined → List Interval → List Interval → ℕ → Bool
wanted_at kind ours theirs x = wanted kind (covered ours x) (covered theirs x)

-- The wanted letters of n, in a list of the usual kind.
unfoldable pub joined : Joined → ℕ → List Interval → List Interval → List Interval
joined kind n ours theirs = stretches (wanted_at kind ours theirs) n

-- Two intervals have a letter in common.
abbrev pub meet : Interval → Interval → Bool
meet i j = ltb (max i.start j.start) (min i.end j.end)

-- The two marks of a byte, whose other bits don't count.
abbrev pub forward : ℕ → Bool
forward m = eqb (m % 2) 1

abbrev pub reverse : ℕ → Bool
reverse m = eqb (m / 2 % 2) 1

-- Some interval of the list shares a letter with j and has the mark; ms holds a byte for each.
unfoldable pub seen : (ℕ → Bool) → List Interval → List ℕ → Interval → Bool
seen mark [] ms j = false
seen mark (i ∷ is) ms j = (meet i j && mark (get_or ms 0 0)) || seen mark is (drop 1 ms) j

-- The marks of j: those of our intervals that share a letter with it.
unfoldable pub marks_for : List Interval → List ℕ → Interval → ℕ
marks_for ours ms j = byte_of (seen forward ours ms j) (seen reverse ours ms j)

abbrev pub joined_marks : Joined → ℕ → List Interval → List ℕ → List Interval → List ℕ
joined_marks kind n ours ms theirs = map (marks_for ours ms) (joined kind n ours theirs)

-- 11. Our marks are fewer than our intervals, or a lent slice, of xs or ys entries, is shorter than both lists together.
abbrev pub too_short_of : ℕ → ℕ → ℕ → ℕ → ℕ → Bool
too_short_of ours ms theirs xs ys = ltb ms ours || (ltb xs (ours + theirs) || ltb ys (ours + theirs))

-- 10, then 16, a list that is not of the usual kind in n letters, then 11.
abbrev pub checks : ℕ → List Interval → List ℕ → List Interval → ℕ → ℕ → List Check
checks n ours ms theirs xs ys =
    check 10 (too_many_letters n)
    ∷ check 16 (not (usual n ours))
    ∷ check 16 (not (usual n theirs))
    ∷ check 11 (too_short_of (length ours) (length ms) (length theirs) xs ys)
    ∷ []

abbrev pub refusal : ℕ → List Interval → List ℕ → List Interval → ℕ → ℕ → ℕ
refusal n ours ms theirs xs ys = first (checks n ours ms theirs xs ys)
