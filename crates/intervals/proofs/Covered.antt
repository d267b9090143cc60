-- The letters that a merge covers are those of either list. `first_apart` is the step of such laws over a list: what holds of its tail holds with the first interval before it.
use Rattle.std.proofs.Common.{ℕ, max, List, [], ◌∷◌, ◌++◌, ◌⊎◌, inl, inr, ⊎_elim, ◌↔◌, arith}
use Rattle.intervals.specs.declared.Interval.{Interval}
use Rattle.intervals.specs.Interval.{interval, Holds, Covers, Canonical}
use Rattle.intervals.specs.Merge.{insert, interleave, nonempty, join, merge}
use Rattle.intervals.proofs.Order.{lt_or_le}
use Rattle.intervals.proofs.Joining.{insert_here, insert_later, nonempty_some, nonempty_none, join_touch, join_gap}
use Rattle.intervals.proofs.Shape.{Rising, rising_lower, both_rising}

pub first_apart : {A B C D : Type 0} → B ↔ (C ⊎ D) → (A ⊎ B) ↔ ((A ⊎ C) ⊎ D)
first_apart e = (
  (λ h. ⊎_elim (λ c. inl (inl c)) (λ c. ⊎_elim (λ d. inl (inr d)) (λ d. inr d) (e.0 c)) h),
  (λ h. ⊎_elim (λ c. ⊎_elim (λ d. inl d) (λ d. inr (e.1 (inl d))) c) (λ c. inr (e.1 (inr c))) h),
)

module _ (x : ℕ) where
  pub append_covers : (is js : List Interval) → Covers (is ++ js) x ↔ (Covers is x ⊎ Covers js x)
  append_covers [] js = ((λ h. inr h), (λ h. ⊎_elim (λ c. absurd c) (λ c. c) h))
  append_covers (i ∷ is) js = first_apart (append_covers is js)

  insert_covers : (i : Interval) (others : List Interval → List Interval) (is : List Interval)
      → ((js : List Interval) → Covers (others js) x ↔ (Covers is x ⊎ Covers js x))
      → (js : List Interval) → Covers (insert i others js) x ↔ (Covers (i ∷ is) x ⊎ Covers js x)
  unfolding insert
  insert_covers i others is hf [] = first_apart (hf [])
  insert_covers i others is hf (j ∷ js) =
      ⊎_elim
      (λ lt. rw (insert_here i others j js lt) (first_apart (hf (j ∷ js))))
      (λ ge. rw (insert_later i others j js ge)
      (let ih = insert_covers i others is hf js in (
        (λ h. ⊎_elim (λ c. inr (inl c)) (λ c. ⊎_elim (λ d. inl d) (λ d. inr (inr d)) (ih.0 c)) h),
        (λ h. ⊎_elim (λ c. inr (ih.1 (inl c))) (λ c. ⊎_elim (λ d. inl d) (λ d. inr (ih.1 (inr d))) c) h),
      )))
      (lt_or_le i.start j.start)

  interleave_covers : (is js : List Interval) → Covers (interleave is js) x ↔ (Covers is x ⊎ Covers js x)
  unfolding interleave
  interleave_covers [] js = ((λ h. inr h), (λ h. ⊎_elim (λ c. absurd c) (λ c. c) h))
  interleave_covers (i ∷ is) js = insert_covers i (interleave is) is (interleave_covers is) js

  pub nonempty_covers : (s e : ℕ) → Covers (nonempty s e) x ↔ Holds (interval s e) x
  nonempty_covers s e =
      ⊎_elim
      (λ lt. rw (nonempty_some s e lt) ((λ h. ⊎_elim (λ c. c) (λ c. absurd c) h), (λ h. inl h)))
      (λ ge. rw (nonempty_none s e ge) ((λ h. absurd h), (λ h. absurd (omega arith))))
      (lt_or_le s e)

  join_covers : (n k s e : ℕ) (is : List Interval) → Rising n k s is
      → Covers (join s e is) x ↔ (Holds (interval s e) x ⊎ Covers is x)
  unfolding join
  join_covers n k s e [] r =
      let a = nonempty_covers s e in
      ((λ h. inl (a.0 h)), (λ h. ⊎_elim (λ c. a.1 c) (λ c. absurd c) h))
  join_covers n k s e (i ∷ is) r =
      ⊎_elim
      (λ gt. rw (join_gap s e i is gt)
      (let a = nonempty_covers s e in
      let b = append_covers (nonempty s e) (join i.start i.end is) in
      let ih = join_covers n k i.start i.end is r.3 in (
        (λ h. ⊎_elim (λ c. inl (a.0 c)) (λ c. inr (ih.0 c)) (b.0 h)),
        (λ h. b.1 (⊎_elim (λ c. inl (a.1 c)) (λ c. inr (ih.1 c)) h)),
      )))
      (λ le. rw (join_touch s e i is le)
      (let ih = join_covers n k s (max e i.end) is (rising_lower n k i.start s is r.0 r.3) in (
        (λ h. ⊎_elim (λ c. ⊎_elim (λ l. inl (omega arith)) (λ g. inr (inl (omega arith))) (lt_or_le x e)) (λ c. inr (inr c)) (ih.0 h)),
        (λ h. ih.1 (⊎_elim (λ c. inl (omega arith)) (λ c. ⊎_elim (λ d. inl (omega arith)) (λ d. inr d) c) h)),
      )))
      (lt_or_le e i.start)

pub merge_covers : (n k : ℕ) (is js : List Interval) (x : ℕ) → Canonical n k is → Canonical n k js
    → Covers (merge is js) x ↔ (Covers is x ⊎ Covers js x)
unfolding merge
merge_covers n k is js x a b =
    let j = join_covers x n k 0 0 (interleave is js) (both_rising n k is js a b) in
    let i = interleave_covers x is js in (
      (λ h. ⊎_elim (λ c. absurd (omega arith)) (λ c. i.0 c) (j.0 h)),
      (λ h. j.1 (inr (i.1 h))),
    )
