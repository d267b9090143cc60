-- Terms of contracts: where the intervals of a list may lie.
use Rattle.std.specs.Prelude.{ℕ, ◌≤◌, ◌<◌, List, [], ◌∷◌}
use Rattle.intervals.specs.declared.Interval.{Interval}

-- Every end lies below e.
abbrev pub EndsBelow : ℕ → List Interval → Type 0
EndsBelow e [] = Unit
EndsBelow e (i ∷ is) = (i.end < e) × EndsBelow e is

-- No start and no end lies past n. Not a field of a type: a list does not hold its sequence's length.
abbrev pub Inside : ℕ → List Interval → Type 0
Inside n [] = Unit
Inside n (i ∷ is) = (i.start ≤ n) × (i.end ≤ n) × Inside n is
