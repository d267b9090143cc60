-- The covered letters of a range, interval by interval.
use Rattle.std.proofs.Common.{ℕ, zero, suc, ◌+◌, ◌≤◌, ◌<◌, ◌≡◌, refl, Bool, true, false, ◌&&◌, ◌||◌, cond, List, [], ◌∷◌, arith, ltb, leb, length, drop}
use borrow.Author.Tests.{leb-true, leb-false, ltb-true, ltb-false}
use Rattle.intervals.specs.declared.Interval.{Interval}
use Rattle.intervals.specs.Interval.{Holds, Covers, covered, covered_in, Ascending}
use Rattle.intervals.proofs.Shape.{covers_above}
use Rattle.intervals.proofs.Counted.{and_agrees, leb_agrees, ltb_agrees, covered_agrees, covered_none}
use Rattle.questions.specs.Answers.{inside}
use Rattle.intervals.specs.Terms.Leading.{leading, ends_by}
use Rattle.questions.specs.Terms.Found.{first_past}
use Rattle.questions.proofs.Ordered.{at}

inside_more : (a b : ℕ) (i : Interval) → inside a (suc b) i ≡ inside a b i + cond (leb a b && (leb i.start b && ltb b i.end)) 1 0
inside_more a b i = go (leb a b) refl (leb i.start b) refl (ltb b i.end) refl
  where
    go : (t : Bool) → leb a b ≡ t → (s : Bool) → leb i.start b ≡ s → (e : Bool) → ltb b i.end ≡ e
        → inside a (suc b) i ≡ inside a b i + cond (t && (s && e)) 1 0
    go true p true q true r = omega (arith, leb-true a b p, leb-true i.start b q, ltb-true b i.end r)
    go true p true q false r = omega (arith, ltb-false b i.end r)
    go true p false q e r = omega (arith, leb-false i.start b q)
    go false p s q e r = omega (arith, leb-false a b p)

-- A letter that the first interval holds, or the others, and not both.
one_or_other : (t h c : Bool) → (h ≡ true → c ≡ true → ⊥) → cond (t && (h || c)) 1 0 ≡ cond (t && h) 1 0 + cond (t && c) 1 0
one_or_other true true true d = absurd (d refl refl)
one_or_other true true false d = refl
one_or_other true false true d = refl
one_or_other true false false d = refl
one_or_other false h c d = refl

covered_cons : (i : Interval) (is : List Interval) → ((x : ℕ) → Holds i x → Covers is x → ⊥) → (a b : ℕ)
    → covered_in (i ∷ is) a b ≡ inside a b i + covered_in is a b
unfolding covered covered_in
covered_cons i is d a zero = omega arith
covered_cons i is d a (suc b) =
    let ih = covered_cons i is d a b in
    let m = inside_more a b i in
    let o =
    one_or_other (leb a b) (leb i.start b && ltb b i.end) (covered is b)
    (λ h c.
    d b ((and_agrees (leb i.start b) (ltb b i.end) (leb_agrees i.start b) (ltb_agrees b i.end)).0 h) ((covered_agrees is b).0 c)) in
    omega arith

module _ (n a b : ℕ) where
  -- From interval k on.
  pub covered_next : (lo : ℕ) (is : List Interval) (k : ℕ) → Ascending n 1 lo is → k < length is
      → covered_in (drop k is) a b ≡ inside a b (at is k) + covered_in (drop (suc k) is) a b
  covered_next lo [] k u h = absurd (let b : ⊥ = omega arith in b)
  covered_next lo (i ∷ is) zero u h =
      covered_cons i is (λ x o c. let z = covers_above n 1 x (i.end + 1) is u.3 c in let b : ⊥ = omega arith in b) a b
  covered_next lo (i ∷ is) (suc k) u h = covered_next (i.end + 1) is k u.3 (omega arith)

  -- Past interval k nothing of the range is covered, if the range ends before it does.
  pub covered_after : (lo : ℕ) (is : List Interval) (k : ℕ) → Ascending n 1 lo is → k < length is → b ≤ (at is k).end
      → covered_in (drop (suc k) is) a b ≡ 0
  covered_after lo [] k u h l = absurd (let b : ⊥ = omega arith in b)
  covered_after lo (i ∷ is) zero u h l =
      covered_none is a b (λ x p q c. let z = covers_above n 1 x (i.end + 1) is u.3 c in let b : ⊥ = omega arith in b)
  covered_after lo (i ∷ is) (suc k) u h l = covered_after (i.end + 1) is k u.3 (omega arith) l

  -- Intervals that end at a or before have no letter in the range.
  pub covered_skip : (lo : ℕ) (is : List Interval) → Ascending n 1 lo is → covered_in is a b ≡ covered_in (drop (first_past is a) is) a b
  unfolding leading
  covered_skip lo [] u = refl
  covered_skip lo (i ∷ is) u = go (leb i.end a) refl (covered_next lo (i ∷ is) 0 u (omega arith)) (covered_skip (i.end + 1) is u.3)
    where
      go : (t : Bool) → leb i.end a ≡ t → covered_in (i ∷ is) a b ≡ inside a b i + covered_in is a b
          → covered_in is a b ≡ covered_in (drop (leading (ends_by a) is) is) a b
          → covered_in (i ∷ is) a b ≡ covered_in (drop (cond t (suc (leading (ends_by a) is)) 0) (i ∷ is)) a b
      go true e c s = omega (arith, leb-true i.end a e)
      go false e c s = refl

pub covered_nothing : (a b : ℕ) → covered_in [] a b ≡ 0
covered_nothing a b = covered_none [] a b (λ x p q c. c)
