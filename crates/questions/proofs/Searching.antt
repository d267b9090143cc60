-- The intervals that end at x or before, and those that begin before x, stand at the front; a bisection that finds how many end.
use Rattle.std.proofs.Common.{ℕ, zero, suc, ◌≤◌, ◌<◌, ◌≡◌, refl, sym, subst, ◌∙◌, Bool, true, false, cond, true≢false, List, [], ◌∷◌, ⊎_elim, eq-or-lt_of_le, arith, length}
use borrow.Author.Tests.{leb-true, leb-false, le-leb, lt-ltb, ltb-true, ltb-false}
use Rattle.std.specs.List.Sorted.{IsPartitionedBy, IsPartitionPoint}
use Rattle.std.proofs.lemmas.List.{get_or_default}
use Rattle.intervals.specs.declared.Interval.{Interval}
use Rattle.intervals.specs.Interval.{interval, usual}
use Rattle.intervals.proofs.Order.{lt_or_le}
use Rattle.intervals.proofs.Shape.{canonical_size}
use Rattle.intervals.proofs.Usual.{usual_agrees}
use Rattle.questions.specs.Usual.{UsualKind}
use Rattle.intervals.specs.Terms.Leading.{leading, ends_by}
use Rattle.questions.specs.Terms.Found.{begins_before, first_past, first_from, IsFirstPast}
use Rattle.questions.proofs.Ordered.{at, nonempty_at, apart_at}

module _ (p : Interval → Bool) where
  pub leading_le : (is : List Interval) → leading p is ≤ length is
  unfolding leading
  leading_le [] = omega arith
  leading_le (i ∷ is) = go (p i) (leading_le is)
    where
      go : (b : Bool) → leading p is ≤ length is → cond b (suc (leading p is)) 0 ≤ suc (length is)
      go true h = omega arith
      go false h = omega arith

  leading_yes : (is : List Interval) (k : ℕ) → k < leading p is → p (at is k) ≡ true
  unfolding leading
  leading_yes [] k h = absurd (let b : ⊥ = omega arith in b)
  leading_yes (i ∷ is) k h = go (p i) refl k h (λ j l. leading_yes is j l)
    where
      go : (b : Bool) → p i ≡ b → (m : ℕ) → m < cond b (suc (leading p is)) 0
          → ((j : ℕ) → j < leading p is → p (at is j) ≡ true) → p (at (i ∷ is) m) ≡ true
      go true e zero l ih = e
      go true e (suc m) l ih = ih m (omega arith)
      go false e m l ih = absurd (let b : ⊥ = omega arith in b)

  leading_no : (is : List Interval) → leading p is < length is → p (at is (leading p is)) ≡ false
  unfolding leading
  leading_no [] h = absurd (let b : ⊥ = omega arith in b)
  leading_no (i ∷ is) h = go (p i) refl h (λ l. leading_no is l)
    where
      go : (b : Bool) → p i ≡ b → cond b (suc (leading p is)) 0 < suc (length is)
          → (leading p is < length is → p (at is (leading p is)) ≡ false) → p (at (i ∷ is) (cond b (suc (leading p is)) 0)) ≡ false
      go true e l ih = ih (omega arith)
      go false e l ih = e

module _ (is : List Interval) (x : ℕ) (u : UsualKind is) where
  pub past_yes : (k : ℕ) → k < first_past is x → (at is k).end ≤ x
  past_yes k h = leb-true (at is k).end x (leading_yes (ends_by x) is k h)

  pub past_no : (k : ℕ) → first_past is x ≤ k → k < length is → x < (at is k).end
  past_no k h l =
      let P : ℕ = first_past is x in
      let e : x < (at is P).end = leb-false (at is P).end x (leading_no (ends_by x) is (omega arith)) in
      let n = nonempty_at 2147483647 0 is k u l in
      ⊎_elim (λ (q : P ≡ k). subst (λ (j : ℕ). x < (at is j).end) q e) (λ q. omega (arith, apart_at 2147483647 0 is P k u q l)) (eq-or-lt_of_le h)

  pub from_yes : (k : ℕ) → k < first_from is x → (at is k).start < x
  from_yes k h = ltb-true (at is k).start x (leading_yes (begins_before x) is k h)

  pub from_no : (k : ℕ) → first_from is x ≤ k → k < length is → x ≤ (at is k).start
  from_no k h l =
      let F : ℕ = first_from is x in
      let e : x ≤ (at is F).start = ltb-false (at is F).start x (leading_no (begins_before x) is (omega arith)) in
      let n = nonempty_at 2147483647 0 is F u (omega arith) in
      ⊎_elim (λ (q : F ≡ k). subst (λ (j : ℕ). x ≤ (at is j).start) q e) (λ q. omega (arith, apart_at 2147483647 0 is F k u q l)) (eq-or-lt_of_le h)

-- A list that passed the test is of the usual kind.
pub of_test : (is : List Interval) → usual 2147483647 is ≡ true → UsualKind is
of_test is h = (usual_agrees 2147483647 is).0 h

-- A list of the usual kind has few enough intervals for an index of 32 bits.
pub usual_few : (ps : List Interval) → UsualKind ps → length ps ≤ 1073741824
usual_few ps u = omega (arith, canonical_size 2147483647 1 ps u)

-- Where the intervals that pass a test stand before the others, the others begin after the leading ones.
leading_found : (p : Interval → Bool) (is : List Interval) (i : ℕ) → i ≤ length is → IsPartitionPoint (λ j. p j ≡ true) (λ j. p j ≡ false) is i
    → i ≡ leading p is
leading_found p is i h f =
    let F : ℕ = leading p is in
    let below : i < F → ⊥ =
    λ l. true≢false (sym (leading_yes p is i l) ∙ f.1 i (interval 0 0) (omega arith) (omega (arith, leading_le p is))) in
    let above : F < i → ⊥ = λ l. true≢false (sym (f.0 F (interval 0 0) (omega arith) l) ∙ leading_no p is (omega arith)) in
    ⊎_elim (λ l. absurd (below l)) (λ l. ⊎_elim (λ (q : F ≡ i). sym q) (λ q. absurd (above q)) (eq-or-lt_of_le l)) (lt_or_le i F)

module _ (is : List Interval) (x : ℕ) (u : UsualKind is) where
  -- A later interval begins and ends later.
  later : (i j : ℕ) → i ≤ j → j < length is → ((at is i).start ≤ (at is j).start) × ((at is i).end ≤ (at is j).end)
  later i j h l =
      let n = nonempty_at 2147483647 0 is j u l in
      let m = nonempty_at 2147483647 0 is i u (omega arith) in
      ⊎_elim (λ (q : i ≡ j). rw q (omega arith, omega arith)) (λ q. let a = apart_at 2147483647 0 is i j u q l in (omega arith, omega arith))
      (eq-or-lt_of_le h)

  -- The intervals that end at x or before stand before the others, and so do those that begin before x.
  pub ended_first : IsPartitionedBy (ends_by x) is
  ended_first i j d h l e =
      let f : (at is j).end ≤ x = leb-true (at is j).end x (rw (get_or_default is j d (interval 0 0) l) at e) in
      let m = later i j h l in
      rw (get_or_default is i d (interval 0 0) (omega arith)) (le-leb (at is i).end x (omega arith))

  pub started_first : IsPartitionedBy (begins_before x) is
  started_first i j d h l e =
      let f : (at is j).start < x = ltb-true (at is j).start x (rw (get_or_default is j d (interval 0 0) l) at e) in
      let m = later i j h l in
      rw (get_or_default is i d (interval 0 0) (omega arith)) (lt-ltb (at is i).start x (omega arith))

  pub past_found : (i : ℕ) → i ≤ length is → IsPartitionPoint (λ j. ends_by x j ≡ true) (λ j. ends_by x j ≡ false) is i → IsFirstPast is x i
  past_found i h p = record { index = leading_found (ends_by x) is i h p; inside = h; small = omega (arith, usual_few is u) }

  pub from_found : (i : ℕ) → i ≤ length is → IsPartitionPoint (λ j. begins_before x j ≡ true) (λ j. begins_before x j ≡ false) is i
      → i ≡ first_from is x
  from_found i h p = leading_found (begins_before x) is i h p
