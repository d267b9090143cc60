-- The steps of `side_at` and `ended`: the first interval that is left of a list in a slice.
use Rattle.std.proofs.Common.{ℕ, ◌≤◌, ◌<◌, ◌≡◌, true, false, List, [], arith, length, drop, get_or, drop_of_length-le}
use borrow.Author.Tests.{lt-ltb, le-ltb, le-leb, lt-leb}
use Rattle.intervals.specs.declared.Interval.{Interval}
use Rattle.intervals.specs.Interval.{interval}
use Rattle.intervals.proofs.Slice.{list_next}
use Rattle.join.specs.Terms.Sweep.{side, side_of, ended_first}

module _ (ps : List Interval) (i : ℕ) where
  none_left : length ps ≤ i → drop i ps ≡ []
  none_left h = drop_of_length-le ps {i = i} (omega arith)

  pub side_none : (n x : ℕ) → length ps ≤ i → side false n ≡ side_of n (drop i ps) x
  unfolding side_of
  side_none n x h = rw (none_left h)

  pub first_none : (x : ℕ) → length ps ≤ i → 0 ≡ ended_first (drop i ps) x
  unfolding ended_first
  first_none x h = rw (none_left h)

  module _ (h : i < length ps) where
    pub side_before : (n x : ℕ) → x < (get_or ps i (interval 0 0)).start → side false (get_or ps i (interval 0 0)).start ≡ side_of n (drop i ps) x
    unfolding side_of
    side_before n x l = rw (list_next ps i h, lt-ltb x (get_or ps i (interval 0 0)).start l)

    pub side_within : (n x : ℕ) → (get_or ps i (interval 0 0)).start ≤ x → side true (get_or ps i (interval 0 0)).end ≡ side_of n (drop i ps) x
    unfolding side_of
    side_within n x l = rw (list_next ps i h, le-ltb x (get_or ps i (interval 0 0)).start l)

    pub first_ended : (x : ℕ) → (get_or ps i (interval 0 0)).end ≤ x → 1 ≡ ended_first (drop i ps) x
    unfolding ended_first
    first_ended x l = rw (list_next ps i h, le-leb (get_or ps i (interval 0 0)).end x l)

    pub first_open : (x : ℕ) → x < (get_or ps i (interval 0 0)).end → 0 ≡ ended_first (drop i ps) x
    unfolding ended_first
    first_open x l = rw (list_next ps i h, lt-leb (get_or ps i (interval 0 0)).end x l)

pub ruleset of_side = (side_none, side_before, side_within)

pub ruleset of_ended = (first_none, first_ended, first_open)
