-- Terms of contracts: what `merge_intervals` has still to join when it stands within its two lists, fs and rs.
use Rattle.std.specs.Prelude.{ℕ, ◌+◌, ◌-◌, ◌≤◌, ◌≡◌, List, ◌∷◌, map, length, take, drop}
use Rattle.intervals.specs.declared.Interval.{Interval}
use Rattle.intervals.specs.declared.Marked.{Marked}
use Rattle.intervals.specs.Merge.{from_forward, from_reverse, interleave_marked, backwards}
use Rattle.intervals.specs.declared.Picked.{Picked}

abbrev pub picked : Marked → ℕ → ℕ → Picked
picked part forward reverse = record { part = part; forward = forward; reverse = reverse }

-- The forward list from its interval i on, and the first j intervals of the reverse list, read backwards.
unfoldable pub remaining : (fs : List Interval) (i : ℕ) (rs : List Interval) (j n : ℕ) → List Marked
remaining fs i rs j n = interleave_marked (map from_forward (drop i fs)) (map from_reverse (backwards n (take j rs)))

-- p is the first of what remains at i and j, and says where the others remain.
pub record Picks (fs : List Interval) (i : ℕ) (rs : List Interval) (j n : ℕ) (p : Picked) : Type 0 where
  pub first : remaining fs i rs j n ≡ p.part ∷ remaining fs p.forward rs p.reverse n
  pub forward_within : p.forward ≤ length fs
  pub reverse_within : p.reverse ≤ j
  pub one_less : (length fs - p.forward) + p.reverse + 1 ≡ (length fs - i) + j
