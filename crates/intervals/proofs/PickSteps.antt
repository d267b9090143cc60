-- What remains of a merge after a pick, for each of the four answers of `pick`.
use Rattle.std.proofs.Common.{ℕ, zero, suc, ◌+◌, ◌-◌, ◌≤◌, ◌<◌, ◌≡◌, ap, ◌∙◌, List, [], ◌∷◌, map, arith, length, take, drop, get_or, drop_of_length-le, take-suc}
use Rattle.intervals.specs.declared.Interval.{Interval}
use Rattle.intervals.specs.Interval.{interval}
use Rattle.intervals.specs.Merge.{from_forward, from_reverse, insert_marked, interleave_marked, flip, backwards}
use Rattle.intervals.specs.Terms.Pick.{picked, remaining, Picks}
use Rattle.intervals.specs.declared.Picked.{Picked}
use Rattle.intervals.proofs.Joining.{marked_here, marked_later}
use Rattle.intervals.proofs.Backward.{backwards_snoc}
use Rattle.intervals.proofs.Slice.{list_next}

abbrev at : List Interval → ℕ → Interval
at is i = get_or is i (interval 0 0)

reverse_next : (n j : ℕ) (rs : List Interval) → 0 < j → j ≤ length rs
    → backwards n (take j rs) ≡ flip n (at rs (j - 1)) ∷ backwards n (take (j - 1) rs)
reverse_next n zero rs h l = absurd (omega arith)
reverse_next n (suc j) rs h l =
    let q : suc j - 1 ≡ j = omega arith in
    rw q
    (ap (λ (is : List Interval). backwards n is) (take-suc rs j (interval 0 0) (omega arith))
    ∙ backwards_snoc n (take j rs) (at rs j))

pub none_remains : (fs : List Interval) (i : ℕ) (rs : List Interval) (n : ℕ) → length fs ≤ i → remaining fs i rs 0 n ≡ []
unfolding remaining backwards interleave_marked
none_remains fs i rs n h = rw (drop_of_length-le fs {i = i} h)

module _ {fs : List Interval} {i : ℕ} {rs : List Interval} {j n : ℕ} {p : Picked} where
  takes_forward : i < length fs → remaining fs i rs j n ≡ from_forward (at fs i) ∷ remaining fs (i + 1) rs j n
      → p ≡ picked (from_forward (at fs i)) (i + 1) j → Picks fs i rs j n p
  takes_forward h f q = rw q (record { first = f; forward_within = omega arith; reverse_within = omega arith; one_less = omega arith })

  takes_reverse : i ≤ length fs → 0 < j → remaining fs i rs j n ≡ from_reverse (flip n (at rs (j - 1))) ∷ remaining fs i rs (j - 1) n
      → p ≡ picked (from_reverse (flip n (at rs (j - 1)))) i (j - 1) → Picks fs i rs j n p
  takes_reverse h l f q = rw q (record { first = f; forward_within = h; reverse_within = omega arith; one_less = omega arith })

-- What `pick` answers in each of its four cases, with the lists in the slices fs and rs.
module _ (fs rs : List Interval) {i j n : ℕ} {p : Picked} where
  pub forward_only : i < length fs → j ≡ 0 → p ≡ picked (from_forward (at fs i)) (i + 1) j
      → Picks fs i rs j n p
  unfolding remaining backwards interleave_marked insert_marked
  forward_only h z =
      takes_forward h (rw (z, list_next fs i h))

  pub reverse_only : i ≡ length fs → 0 < j → j ≤ length rs → p ≡ picked (from_reverse (flip n (at rs (j - 1)))) i (j - 1)
      → Picks fs i rs j n p
  unfolding remaining interleave_marked
  reverse_only h l m =
      takes_reverse (omega arith) l (rw (drop_of_length-le fs {i = i} (omega arith), reverse_next n j rs l m))

  module _ (h : i < length fs) (l : 0 < j) (m : j ≤ length rs) where
    pub forward_first : (get_or fs i (interval 0 0)).start < n - (get_or rs (j - 1) (interval 0 0)).end → p ≡ picked (from_forward (at fs i)) (i + 1) j
        → Picks fs i rs j n p
    unfolding remaining interleave_marked
    forward_first t =
        takes_forward h
        (rw (list_next fs i h, reverse_next n j rs l m)
        (marked_here (from_forward (at fs i)) (interleave_marked (map from_forward (drop (i + 1) fs))) (from_reverse (flip n (at rs (j - 1))))
        (map from_reverse (backwards n (take (j - 1) rs))) t))

    pub reverse_first : n - (get_or rs (j - 1) (interval 0 0)).end ≤ (get_or fs i (interval 0 0)).start → p ≡ picked (from_reverse (flip n (at rs (j - 1)))) i (j - 1)
        → Picks fs i rs j n p
    unfolding remaining interleave_marked
    reverse_first t =
        takes_reverse (omega arith) l
        (rw (list_next fs i h, reverse_next n j rs l m)
        (marked_later (from_forward (at fs i)) (interleave_marked (map from_forward (drop (i + 1) fs))) (from_reverse (flip n (at rs (j - 1))))
        (map from_reverse (backwards n (take (j - 1) rs))) t))
