-- The terms of the theorems about marks (proofs/Marks.antt).
use Rattle.std.specs.Prelude.{ℕ, ◌<◌, ◌≡◌, Bool, true, List, length, get_or}
use Rattle.intervals.specs.declared.Interval.{Interval}
use Rattle.intervals.specs.Interval.{interval, Holds}

-- One of our intervals has the mark and a letter in common with j.
abbrev pub Gives : (ℕ → Bool) → List Interval → List ℕ → Interval → Type 0
Gives mark is ms j = (p : ℕ) × (p < length is) × ((x : ℕ) × Holds (get_or is p (interval 0 0)) x × Holds j x) × (mark (get_or ms p 0) ≡ true)
