-- The lists of both strands joined: what an accepted request brings along, and that the joined list has no more intervals than both together.
use Rattle.std.proofs.Common.{◌≡◌, refl, ap, ◌∙◌, ⊎_elim, ℕ, suc, ◌+◌, ◌≤◌, max, false, List, [], ◌∷◌, ltb, length, get_or, length-append, arith}
use borrow.Author.Tests.{ltb-false, not-false}
use Rattle.scans.proofs.Test.{neither}
use Rattle.checks.specs.Checks.{check}
use Rattle.checks.proofs.Passing.{passes}
use Rattle.intervals.specs.declared.Interval.{Interval}
use Rattle.intervals.specs.Interval.{Canonical, usual}
use Rattle.intervals.specs.Terms.Bounds.{Inside}
use Rattle.intervals.specs.Merge.{insert, interleave, nonempty, join, merge, flip, backwards}
use Rattle.intervals.proofs.Order.{lt_or_le}
use Rattle.intervals.proofs.Joining.{insert_here, insert_later, nonempty_some, nonempty_none, join_touch, join_gap}
use Rattle.intervals.proofs.Shape.{ascending_inside}
use Rattle.intervals.proofs.Usual.{usual_agrees}
use Rattle.longdust.specs.Strand.{merging_checks, merging_refusal}

-- ---- How many intervals the joined list has at most.
insert_length : (i : Interval) (others : List Interval → List Interval) (m : ℕ) → ((js : List Interval) → length (others js) ≡ m + length js)
    → (js : List Interval) → length (insert i others js) ≡ suc (m + length js)
unfolding insert
insert_length i others m h [] = ap (λ (n : ℕ). suc n) (h [])
insert_length i others m h (j ∷ js) =
    ⊎_elim (λ lt. rw (insert_here i others j js lt) (ap (λ (n : ℕ). suc n) (h (j ∷ js))))
    (λ ge. rw (insert_later i others j js ge) (let e = insert_length i others m h js in omega arith))
    (lt_or_le i.start j.start)

interleave_length : (is js : List Interval) → length (interleave is js) ≡ length is + length js
unfolding interleave
interleave_length [] js = let e : length js ≡ 0 + length js = omega arith in e
interleave_length (i ∷ is) js =
    insert_length i (interleave is) (length is) (λ ks. interleave_length is ks) js ∙ (let e : suc (length is + length js) ≡ suc (length is) + length js = omega arith in e)

nonempty_at_most : (s e : ℕ) → length (nonempty s e) ≤ 1
nonempty_at_most s e =
    ⊎_elim (λ lt. rw (nonempty_some s e lt) (let h : 1 ≤ 1 = omega arith in h)) (λ ge. rw (nonempty_none s e ge) (let h : 0 ≤ 1 = omega arith in h)) (lt_or_le s e)

join_at_most : (s e : ℕ) (is : List Interval) → length (join s e is) ≤ length (nonempty s e) + length is
unfolding join
join_at_most s e [] = let h : length (nonempty s e) ≤ length (nonempty s e) + 0 = omega arith in h
join_at_most s e (i ∷ is) =
    ⊎_elim
    (λ gt. rw (join_gap s e i is gt)
    (let a = length-append (nonempty s e) (join i.start i.end is) in
    let b = join_at_most i.start i.end is in
    let c = nonempty_at_most i.start i.end in
    omega arith))
    (λ le. rw (join_touch s e i is le)
    (let b = join_at_most s (max e i.end) is in
    let c = nonempty_at_most s (max e i.end) in
    omega arith))
    (lt_or_le e i.start)

backwards_length : (n : ℕ) (is : List Interval) → length (backwards n is) ≡ length is
unfolding backwards
backwards_length n [] = refl
backwards_length n (i ∷ is) = length-append (backwards n is) (flip n i ∷ []) ∙ (let e = backwards_length n is in omega arith)

pub merge_at_most : (n : ℕ) (is js : List Interval) → length (merge is (backwards n js)) ≤ length is + length js
unfolding merge nonempty
merge_at_most n is js =
    let a = join_at_most 0 0 (interleave is (backwards n js)) in
    let z : length (nonempty 0 0) ≡ 0 = refl in
    omega (arith, interleave_length is (backwards n js), backwards_length n js)

-- ---- What a request that no check refuses brings along.
pub record Mergeable (n : ℕ) (forward reverse : List Interval) (xs ys : ℕ) : Type 0 where
  pub few : n ≤ 2147483647
  pub forward_usual : Canonical n 1 forward
  pub reverse_usual : Canonical n 1 reverse
  pub room : length forward + length reverse ≤ xs
  pub marks_room : length forward + length reverse ≤ ys

pub mergeable : {n : ℕ} {forward reverse : List Interval} {xs ys : ℕ} → merging_refusal n forward reverse xs ys ≡ 0 → Mergeable n forward reverse xs ys
mergeable {n} {forward} {reverse} {xs} {ys} h =
    let m : ℕ = length forward + length reverse in
    let p : (j : ℕ) → (get_or (merging_checks n forward reverse xs ys) j (check 0 false)).fails ≡ false =
    passes (merging_checks n forward reverse xs ys) refl h in
    let e = neither (ltb xs m) (ltb ys m) (p 3) in
    record {
      few = ltb-false 2147483647 n (p 0);
      forward_usual = (usual_agrees n forward).0 (not-false (usual n forward) (p 1));
      reverse_usual = (usual_agrees n reverse).0 (not-false (usual n reverse) (p 2));
      room = ltb-false xs m e.0;
      marks_room = ltb-false ys m e.1;
    }

pub reverse_inside : {n : ℕ} {forward reverse : List Interval} {xs ys : ℕ} → Mergeable n forward reverse xs ys → Inside n reverse
reverse_inside {n} {forward} {reverse} m = ascending_inside n 1 0 reverse m.reverse_usual
