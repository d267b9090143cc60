-- The nearest interval: no interval is nearer, none as near stands left of it, and only one is so; where it stands in a list of the usual kind.
use Rattle.std.proofs.Common.{ℕ, zero, suc, ◌+◌, ◌-◌, ◌≤◌, ◌<◌, ◌≡◌, refl, ap, Bool, true, false, cond, List, [], ◌∷◌, ⊎_elim, eq-or-lt_of_le, arith, leb, length}
use borrow.Author.Tests.{leb-true, leb-false}
use Rattle.intervals.specs.declared.Interval.{Interval}
use Rattle.intervals.proofs.Order.{lt_or_le}
use Rattle.questions.specs.Answers.{answer, letters_between, nearest_index, nearest}
use Rattle.questions.specs.Usual.{UsualKind}
use Rattle.questions.specs.Promised.{distance, Nearest}
use Rattle.intervals.specs.Terms.Leading.{ends_by}
use Rattle.questions.specs.Terms.Found.{first_past}
use Rattle.questions.proofs.Ordered.{at, nonempty_at, apart_at}
use Rattle.questions.proofs.Searching.{leading_le, past_yes, past_no}

module _ (x : ℕ) where
  first_nearest : (i : Interval) (is : List Interval) (k : ℕ) → Nearest x is k → letters_between x i ≤ distance x is k → Nearest x (i ∷ is) 0
  first_nearest i is k n h =
      record {
        inside = omega arith;
        least = λ j l. least j l;
        leftmost = λ j l. absurd (let b : ⊥ = omega arith in b);
      }
    where
      least : (j : ℕ) → j < suc (length is) → letters_between x i ≤ distance x (i ∷ is) j
      least zero l = omega arith
      least (suc j) l = let e = n.least j (omega arith) in omega arith

  later_nearest : (i : Interval) (is : List Interval) (k : ℕ) → Nearest x is k → distance x is k < letters_between x i → Nearest x (i ∷ is) (suc k)
  later_nearest i is k n h =
      record { inside = let l = n.inside in omega arith; least = λ j l. least j l; leftmost = λ j l. leftmost j l }
    where
      least : (j : ℕ) → j < suc (length is) → distance x is k ≤ distance x (i ∷ is) j
      least zero l = omega arith
      least (suc j) l = n.least j (omega arith)

      leftmost : (j : ℕ) → j < suc k → distance x is k < distance x (i ∷ is) j
      leftmost zero l = h
      leftmost (suc j) l = n.leftmost j (omega arith)

  pub index_nearest : (i : Interval) (is : List Interval) → Nearest x (i ∷ is) (nearest_index x i is)
  unfolding nearest_index
  index_nearest i [] =
      record {
        inside = omega arith;
        least = λ j l. only j l;
        leftmost = λ j l. absurd (let b : ⊥ = omega arith in b);
      }
    where
      only : (j : ℕ) → j < 1 → letters_between x i ≤ distance x (i ∷ []) j
      only zero l = omega arith
      only (suc j) l = absurd (let b : ⊥ = omega arith in b)
  index_nearest i (j ∷ is) = go (leb (letters_between x i) (distance x (j ∷ is) (nearest_index x j is))) refl (index_nearest j is)
    where
      go : (b : Bool) → leb (letters_between x i) (distance x (j ∷ is) (nearest_index x j is)) ≡ b → Nearest x (j ∷ is) (nearest_index x j is)
          → Nearest x (i ∷ j ∷ is) (cond b 0 (suc (nearest_index x j is)))
      go true e n = first_nearest i (j ∷ is) (nearest_index x j is) n (leb-true _ _ e)
      go false e n = later_nearest i (j ∷ is) (nearest_index x j is) n (leb-false _ _ e)

  pub nearest_unique : (is : List Interval) (j k : ℕ) → Nearest x is j → Nearest x is k → j ≡ k
  nearest_unique is j k m n =
      ⊎_elim (λ h. absurd (let p = n.leftmost j h in let q = m.least k n.inside in omega arith))
      (λ h. ⊎_elim (λ l. absurd (let p = m.leftmost k l in let q = n.least j m.inside in omega arith)) (λ l. omega arith) (lt_or_le k j))
      (lt_or_le j k)

  pub nearest_is : (is : List Interval) (k : ℕ) → Nearest x is k → nearest x is ≡ answer k (distance x is k)
  unfolding nearest
  nearest_is [] k n = absurd (let h = n.inside in let b : ⊥ = omega arith in b)
  nearest_is (i ∷ is) k n =
      ap (λ (j : ℕ). answer j (distance x (i ∷ is) j)) (nearest_unique (i ∷ is) (nearest_index x i is) k (index_nearest i is) n)

-- In a list of the usual kind: either the last that ends at x or before, or the first whose end lies past x.
module _ (is : List Interval) (x : ℕ) (u : UsualKind is) where
  abbrev P : ℕ
  P = first_past is x

  pub left_distance : (k : ℕ) → k < P → P ≤ length is → distance x is k ≡ x - (at is k).end
  left_distance k h l =
      let e = past_yes is x u k h in
      let n = nonempty_at 2147483647 0 is k u (omega arith) in
      omega arith

  pub right_distance : (k : ℕ) → P ≤ k → k < length is → distance x is k ≡ (at is k).start - (x + 1)
  right_distance k h l = let e = past_no is x u k h l in omega arith

  within_length : P ≤ length is
  within_length = leading_le (ends_by x) is

  left_falls : (j k : ℕ) → j < k → k < P → distance x is k < distance x is j
  left_falls j k h l =
      let w = within_length in
      let e = past_yes is x u k l in
      let n = nonempty_at 2147483647 0 is k u (omega arith) in
      omega (arith, left_distance j (omega arith) w, left_distance k l w, apart_at 2147483647 0 is j k u h (omega arith))

  right_rises : (k : ℕ) → P ≤ k → k < length is → distance x is P ≤ distance x is k
  right_rises k h l =
      ⊎_elim (λ (q : P ≡ k). rw q (omega arith))
      (λ q.
      let n = nonempty_at 2147483647 0 is P u (omega arith) in
      omega (arith, right_distance P (omega arith) (omega arith), right_distance k h l, apart_at 2147483647 0 is P k u q l))
      (eq-or-lt_of_le h)

  pub left_nearest : (k : ℕ) → P ≡ k + 1 → (P < length is → distance x is k ≤ distance x is P) → Nearest x is k
  left_nearest k q h =
      record {
        inside = let w = within_length in omega arith;
        least = λ j l.
            ⊎_elim (λ (s : j < P). ⊎_elim (λ (t : j < k). let e = left_falls j k t (omega arith) in omega arith) (λ (t : k ≤ j). let e : j ≡ k = omega arith in rw e (omega arith)) (lt_or_le j k))
            (λ s. omega (arith, h (omega arith), right_rises j s l))
            (lt_or_le j P);
        leftmost = λ j l. left_falls j k l (omega arith);
      }

  pub right_nearest : P < length is → ((k : ℕ) → P ≡ k + 1 → distance x is P < distance x is k) → Nearest x is P
  right_nearest l h =
      record {
        inside = l;
        least = λ j m. ⊎_elim (λ s. let e = before j s in omega arith) (λ s. right_rises j s m) (lt_or_le j P);
        leftmost = λ j m. before j m;
      }
    where
      before : (j : ℕ) → j < P → distance x is P < distance x is j
      before j s =
          let q : P ≡ (P - 1) + 1 = omega arith in
          ⊎_elim (λ t. omega (arith, h (P - 1) q, left_falls j (P - 1) t (omega arith)))
          (λ t. h j (omega arith))
          (lt_or_le j (P - 1))
