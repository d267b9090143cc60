-- One step of `insert`, `nonempty` and `join`, with marks and without, an equation for each outcome of its test.
use Rattle.std.proofs.Common.{ℕ, ◌≤◌, ◌<◌, max, ◌≡◌, List, [], ◌∷◌, ◌++◌}
use borrow.Author.Tests.{lt-ltb, le-ltb, le-leb, lt-leb}
use Rattle.intervals.specs.declared.Interval.{Interval}
use Rattle.intervals.specs.Interval.{interval}
use Rattle.intervals.specs.declared.Marked.{Marked}
use Rattle.intervals.specs.Merge.{insert, nonempty, join, insert_marked, nonempty_marked, grown, join_marked}

module _ (i : Interval) (others : List Interval → List Interval) (j : Interval) (js : List Interval) where
  pub insert_here : i.start < j.start → insert i others (j ∷ js) ≡ i ∷ others (j ∷ js)
  unfolding insert
  insert_here h = simp (lt-ltb _ _ h)

  pub insert_later : j.start ≤ i.start → insert i others (j ∷ js) ≡ j ∷ insert i others js
  unfolding insert
  insert_later h = simp (le-ltb _ _ h)

module _ (s e : ℕ) where
  pub nonempty_some : s < e → nonempty s e ≡ interval s e ∷ []
  unfolding nonempty
  nonempty_some h = simp (lt-ltb _ _ h)

  pub nonempty_none : e ≤ s → nonempty s e ≡ []
  unfolding nonempty
  nonempty_none h = simp (le-ltb _ _ h)

  module _ (i : Interval) (is : List Interval) where
    pub join_touch : i.start ≤ e → join s e (i ∷ is) ≡ join s (max e i.end) is
    unfolding join
    join_touch h = simp (le-leb _ _ h)

    pub join_gap : e < i.start → join s e (i ∷ is) ≡ nonempty s e ++ join i.start i.end is
    unfolding join
    join_gap h = simp (lt-leb _ _ h)

module _ (m : Marked) (others : List Marked → List Marked) (p : Marked) (ps : List Marked) where
  pub marked_here : m.start < p.start → insert_marked m others (p ∷ ps) ≡ m ∷ others (p ∷ ps)
  unfolding insert_marked
  marked_here h = simp (lt-ltb _ _ h)

  pub marked_later : p.start ≤ m.start → insert_marked m others (p ∷ ps) ≡ p ∷ insert_marked m others ps
  unfolding insert_marked
  marked_later h = simp (le-ltb _ _ h)

module _ (m : Marked) where
  pub marked_some : m.start < m.end → nonempty_marked m ≡ m ∷ []
  unfolding nonempty_marked
  marked_some h = simp (lt-ltb _ _ h)

  pub marked_none : m.end ≤ m.start → nonempty_marked m ≡ []
  unfolding nonempty_marked
  marked_none h = simp (le-ltb _ _ h)

  module _ (p : Marked) (ps : List Marked) where
    pub marked_touch : p.start ≤ m.end → join_marked m (p ∷ ps) ≡ join_marked (grown m p) ps
    unfolding join_marked
    marked_touch h = simp (le-leb _ _ h)

    pub marked_gap : m.end < p.start → join_marked m (p ∷ ps) ≡ nonempty_marked m ++ join_marked p ps
    unfolding join_marked
    marked_gap h = simp (lt-leb _ _ h)
