-- A list of the usual kind, entry by entry: none empty, none past the letters, a letter or more between two.
use Rattle.std.proofs.Common.{ℕ, zero, suc, ◌+◌, ◌≤◌, ◌<◌, List, [], ◌∷◌, arith, length, get_or}
use Rattle.intervals.specs.declared.Interval.{Interval}
use Rattle.intervals.specs.Interval.{interval, Ascending}

abbrev pub at : List Interval → ℕ → Interval
at is k = get_or is k (interval 0 0)

module _ (n : ℕ) where
  above_at : (lo : ℕ) (is : List Interval) (k : ℕ) → Ascending n 1 lo is → k < length is → lo ≤ (at is k).start
  above_at lo [] k a h = absurd (let b : ⊥ = omega arith in b)
  above_at lo (i ∷ is) zero a h = a.0
  above_at lo (i ∷ is) (suc k) a h = omega (arith, above_at (i.end + 1) is k a.3 (omega arith))

  pub nonempty_at : (lo : ℕ) (is : List Interval) (k : ℕ) → Ascending n 1 lo is → k < length is
      → ((at is k).start < (at is k).end) × ((at is k).end ≤ n)
  nonempty_at lo [] k a h = absurd (let b : ⊥ = omega arith in b)
  nonempty_at lo (i ∷ is) zero a h = (omega arith, a.2)
  nonempty_at lo (i ∷ is) (suc k) a h = nonempty_at (i.end + 1) is k a.3 (omega arith)

  pub apart_at : (lo : ℕ) (is : List Interval) (j k : ℕ) → Ascending n 1 lo is → j < k → k < length is → (at is j).end < (at is k).start
  apart_at lo [] j k a h l = absurd (let b : ⊥ = omega arith in b)
  apart_at lo (i ∷ is) j zero a h l = absurd (let b : ⊥ = omega arith in b)
  apart_at lo (i ∷ is) zero (suc k) a h l = omega (arith, above_at (i.end + 1) is k a.3 (omega arith))
  apart_at lo (i ∷ is) (suc j) (suc k) a h l = apart_at (i.end + 1) is j k a.3 (omega arith) (omega arith)
