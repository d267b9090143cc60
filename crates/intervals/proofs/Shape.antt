-- Canonical lists: their bounds, how many intervals they have, and that a merge of two is one.
use Rattle.std.proofs.Common.{ℕ, ◌+◌, ◌*◌, ◌/◌, ◌≤◌, ◌<◌, max, List, [], ◌∷◌, ⊎_elim, arith, suc-mul, le-div_iff_mul-le, length}
use Rattle.intervals.specs.declared.Interval.{Interval}
use Rattle.intervals.specs.Interval.{Covers, Ascending, Canonical}
use Rattle.intervals.specs.Terms.Bounds.{Inside}
use Rattle.intervals.specs.Merge.{insert, interleave, nonempty, join, merge}
use Rattle.intervals.proofs.Order.{lt_or_le}
use Rattle.intervals.proofs.Joining.{insert_here, insert_later, nonempty_some, join_touch, join_gap}

pub ascending_more : (n m k lo : ℕ) (is : List Interval) → n ≤ m → Ascending n k lo is → Ascending m k lo is
ascending_more n m k lo [] h a = tt
ascending_more n m k lo (i ∷ is) h a = (a.0, a.1, omega arith, ascending_more n m k (i.end + 1) is h a.3)

pub ascending_inside : (n k lo : ℕ) (is : List Interval) → Ascending n k lo is → Inside n is
ascending_inside n k lo [] a = tt
ascending_inside n k lo (i ∷ is) a = (omega arith, a.2, ascending_inside n k (i.end + 1) is a.3)

module _ (n k x : ℕ) where
  pub covers_above : (lo : ℕ) (is : List Interval) → Ascending n k lo is → Covers is x → lo ≤ x
  covers_above lo [] a c = absurd c
  covers_above lo (i ∷ is) a c =
      ⊎_elim (λ h. omega arith) (λ h. omega (arith, covers_above (i.end + 1) is a.3 h)) c

  pub covers_below : (lo : ℕ) (is : List Interval) → Ascending n k lo is → Covers is x → x < n
  covers_below lo [] a c = absurd c
  covers_below lo (i ∷ is) a c = ⊎_elim (λ h. omega arith) (λ h. covers_below (i.end + 1) is a.3 h) c

-- How many: m intervals of a canonical list have m (k + 1) <= n + 1.
ascending_size : (n k lo : ℕ) (is : List Interval) → lo ≤ n + 1 → Ascending n k lo is → lo + length is * (k + 1) ≤ n + 1
ascending_size n k lo [] h a = omega arith
ascending_size n k lo (i ∷ is) h a =
    let ih = ascending_size n k (i.end + 1) is (omega arith) a.3 in
    rw suc-mul (omega arith)

pub canonical_size : (n k : ℕ) (is : List Interval) → Canonical n k is → length is * (k + 1) ≤ n + 1
canonical_size n k is a = omega (arith, ascending_size n k 0 is (omega arith) a)

pub canonical_room : (n k : ℕ) (is : List Interval) → Canonical n k is → length is ≤ (n + 1) / (k + 1)
canonical_room n k is a =
    (le-div_iff_mul-le {k = k + 1} {x = length is} {y = n + 1} (omega arith)).1 (canonical_size n k is a)

-- By their starts, from lo on: each of at least k letters and within n, overlaps allowed.
abbrev pub Rising : ℕ → ℕ → ℕ → List Interval → Type 0
Rising n k lo [] = Unit
Rising n k lo (i ∷ is) = (lo ≤ i.start) × (i.start + k ≤ i.end) × (i.end ≤ n) × Rising n k i.start is

module _ (n k : ℕ) where
  pub rising_lower : (lo lo' : ℕ) (is : List Interval) → lo' ≤ lo → Rising n k lo is → Rising n k lo' is
  rising_lower lo lo' [] h r = tt
  rising_lower lo lo' (i ∷ is) h r = (omega arith, r.1, r.2, r.3)

  ascending_rising : (lo : ℕ) (is : List Interval) → Ascending n k lo is → Rising n k lo is
  ascending_rising lo [] a = tt
  ascending_rising lo (i ∷ is) a =
      (a.0, a.1, a.2, rising_lower (i.end + 1) i.start is (omega arith) (ascending_rising (i.end + 1) is a.3))

  insert_rising : (lo : ℕ) (i : Interval) (others : List Interval → List Interval) (is : List Interval)
      → ((lo' : ℕ) (js : List Interval) → Rising n k lo' is → Rising n k lo' js → Rising n k lo' (others js))
      → (js : List Interval) → Rising n k lo (i ∷ is) → Rising n k lo js → Rising n k lo (insert i others js)
  unfolding insert
  insert_rising lo i others is hf [] r q = (r.0, r.1, r.2, hf i.start [] r.3 tt)
  insert_rising lo i others is hf (j ∷ js) r q =
      ⊎_elim
      (λ lt. rw (insert_here i others j js lt)
      (r.0, r.1, r.2, hf i.start (j ∷ js) r.3 (omega arith, q.1, q.2, q.3)))
      (λ ge. rw (insert_later i others j js ge)
      (q.0, q.1, q.2, insert_rising j.start i others is hf js (ge, r.1, r.2, r.3) q.3))
      (lt_or_le i.start j.start)

  interleave_rising : (lo : ℕ) (is js : List Interval) → Rising n k lo is → Rising n k lo js → Rising n k lo (interleave is js)
  unfolding interleave
  interleave_rising lo [] js r q = q
  interleave_rising lo (i ∷ is) js r q =
      insert_rising lo i (interleave is) is (λ lo' js' r' q'. interleave_rising lo' is js' r' q') js r q

  pub both_rising : (is js : List Interval) → Canonical n k is → Canonical n k js → Rising n k 0 (interleave is js)
  both_rising is js a b = interleave_rising 0 is js (ascending_rising 0 is a) (ascending_rising 0 js b)

  module _ (p : 0 < k) where
    -- A first interval [s, e) of k letters or more.
    join_ascending : (lo s e : ℕ) (is : List Interval) → lo ≤ s → s + k ≤ e → e ≤ n → Rising n k s is → Ascending n k lo (join s e is)
    unfolding join
    join_ascending lo s e [] h l m r = rw (nonempty_some s e (omega arith)) (h, l, m, tt)
    join_ascending lo s e (i ∷ is) h l m r =
        ⊎_elim
        (λ gt. rw (join_gap s e i is gt, nonempty_some s e (omega arith))
        (h, l, m, join_ascending (e + 1) i.start i.end is (omega arith) r.1 r.2 r.3))
        (λ le. rw (join_touch s e i is le)
        (join_ascending lo s (max e i.end) is h (omega arith) (omega arith) (rising_lower i.start s is r.0 r.3)))
        (lt_or_le e i.start)

    join_canonical : (is : List Interval) → Rising n k 0 is → Canonical n k (join 0 0 is)
    unfolding join nonempty
    join_canonical [] r = tt
    join_canonical (i ∷ is) r =
        ⊎_elim
        (λ gt. rw (join_gap 0 0 i is gt) (join_ascending 0 i.start i.end is (omega arith) r.1 r.2 r.3))
        (λ le. rw (join_touch 0 0 i is le)
        (join_ascending 0 0 (max 0 i.end) is (omega arith) (omega arith) (omega arith) (rising_lower i.start 0 is r.0 r.3)))
        (lt_or_le 0 i.start)

pub merge_canonical : (n k : ℕ) (is js : List Interval) → 0 < k → Canonical n k is → Canonical n k js → Canonical n k (merge is js)
unfolding merge
merge_canonical n k is js p a b = join_canonical n k p (interleave is js) (both_rising n k is js a b)
