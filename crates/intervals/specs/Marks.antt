-- Terms of theorems about marks: what a mark says of the list that it stands for.
use Rattle.std.specs.Prelude.{ℕ, ◌≤◌, ◌<◌, List, [], ◌∷◌, ◌⊎◌, T}
use Rattle.intervals.specs.declared.Marked.{Marked}
use Rattle.intervals.specs.declared.Interval.{Interval}
use Rattle.intervals.specs.Interval.{Holds, Covers}
use Rattle.intervals.specs.Merge.{range}

abbrev pub Some : (Interval → Type 0) → List Interval → Type 0
Some P [] = ⊥
Some P (i ∷ is) = P i ⊎ Some P is

abbrev pub Every : (Marked → Type 0) → List Marked → Type 0
Every P [] = Unit {0}
Every P (m ∷ ms) = P m × Every P ms

-- The interval i, of a letter or more, lies in r.
abbrev pub LiesIn : Interval → Interval → Type 0
LiesIn r i = (r.start ≤ i.start) × (i.start < i.end) × (i.end ≤ r.end)

-- i and r share a letter.
abbrev pub Shares : Interval → Interval → Type 0
Shares r i = (r.start < i.end) × (i.start < r.end)

-- Each mark is set exactly when an interval of its list lies in the marked one, and whenever one shares a letter with it.
pub record Told (is js : List Interval) (m : Marked) : Type 0 where
  pub forward : T m.forward → Some (LiesIn (range m)) is
  pub forward_met : Some (Shares (range m)) is → T m.forward
  pub reverse : T m.reverse → Some (LiesIn (range m)) js
  pub reverse_met : Some (Shares (range m)) js → T m.reverse

-- A letter of the marked interval is covered by one of the two lists, and by neither whose mark is not set.
pub record ToldLetters (is js : List Interval) (m : Marked) : Type 0 where
  pub covered : (x : ℕ) → Holds (range m) x → Covers is x ⊎ Covers js x
  pub forward : (x : ℕ) → Holds (range m) x → Covers is x → T m.forward
  pub reverse : (x : ℕ) → Holds (range m) x → Covers js x → T m.reverse
  pub some : T m.forward ⊎ T m.reverse
