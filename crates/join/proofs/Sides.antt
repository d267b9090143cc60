-- How a list goes on from letter x: over which letters it stays as it is, which interval covers them, and how many have ended then.
use Rattle.std.proofs.Common.{ℕ, suc, ◌+◌, ◌%◌, ◌≤◌, ◌<◌, min, max, ◌≡◌, refl, ap, ap₂, ◌∙◌, Bool, true, false, ◌&&◌, List, [], ◌∷◌, map, ⊎_elim, arith, leb, length, take, drop, get_or}
use mathlib.Core.Bool.{and-false, or-false}
use borrow.Author.Tests.{lt-ltb, le-ltb, le-leb, lt-leb}
use Rattle.intervals.specs.declared.Interval.{Interval}
use Rattle.intervals.specs.Interval.{interval, covered, Ascending}
use Rattle.intervals.proofs.Order.{lt_or_le}
use Rattle.join.specs.Joining.{seen, marks_for}
use Rattle.intervals.specs.Terms.Leading.{leading, ended}
use Rattle.join.specs.Terms.Sweep.{side, side_of, ended_first}
use Rattle.join.specs.declared.Side.{Side}
use Rattle.join.proofs.Marks.{later, marks_part}

-- The first k intervals of the list end at x or before it, and s says how it goes on.
pub record Goes (n : ℕ) (is : List Interval) (x k : ℕ) (s : Side) : Type 0 where
  pub past : x < s.until
  pub inside : s.until ≤ n
  pub letters : (y : ℕ) → x ≤ y → y < s.until → covered is y ≡ s.covers
  pub then : (q : ℕ) → x < q → q ≤ s.until → ended is q ≡ k + ended_first (drop k is) q
  pub marks : (mark : ℕ → Bool) (ms : List ℕ) (a b : ℕ) → x ≤ a → a < b → b ≤ s.until
      → seen mark is ms (interval a b) ≡ (s.covers && mark (get_or ms k 0))
  pub index : s.covers ≡ true → k < length is

-- An ascending list before its first letter.
module _ (n : ℕ) where
  covered_early : (lo y : ℕ) (is : List Interval) → Ascending n 1 lo is → y < lo → covered is y ≡ false
  unfolding covered
  covered_early lo y [] a h = refl
  covered_early lo y (i ∷ is) a h = rw (lt-leb i.start y (omega arith), covered_early (i.end + 1) y is a.3 (omega arith))

  pub ended_early : (lo q : ℕ) (is : List Interval) → Ascending n 1 lo is → q ≤ lo → ended is q ≡ 0
  unfolding leading
  ended_early lo q [] a h = refl
  ended_early lo q (i ∷ is) a h = rw (lt-leb i.end q (omega arith))

  seen_early : (mark : ℕ → Bool) (lo a b : ℕ) (is : List Interval) (ms : List ℕ) → Ascending n 1 lo is → b ≤ lo → seen mark is ms (interval a b) ≡ false
  unfolding seen
  seen_early mark lo a b [] ms c h = refl
  seen_early mark lo a b (i ∷ is) ms c h =
      rw (
        le-ltb (max i.start a) (min i.end b) (omega arith),
        seen_early mark (i.end + 1) a b is (drop 1 ms) c.3 (omega arith),
      )

module _ (n x : ℕ) where
  goes_none : x < n → Goes n [] x 0 (side false n)
  unfolding covered leading ended_first seen
  goes_none h = record {
    past = h;
    inside = omega arith;
    letters = λ y l m. refl;
    then = λ q l m. refl;
    marks = λ mark ms a b l m r. refl;
    index = λ e. absurd (let z : ◌≡◌ {A = ℕ} 0 1 = cc in omega arith);
  }

  module _ (lo : ℕ) (i : Interval) (is : List Interval) (c : Ascending n 1 lo (i ∷ is)) where
    -- The first interval ends at x or before it.
    goes_past : {k : ℕ} {s : Side} → i.end ≤ x → Goes n is x k s → Goes n (i ∷ is) x (suc k) s
    unfolding covered leading seen
    goes_past {k} {s} h g = record {
      past = g.past;
      inside = g.inside;
      letters = λ y l m. rw (le-ltb y i.end (omega arith), and-false (leb i.start y)) (g.letters y l m);
      then = λ q l m. rw (le-leb i.end q (omega arith)) (omega (arith, g.then q l m));
      marks = λ mark ms a b l m r.
          rw (le-ltb (max i.start a) (min i.end b) (omega arith))
          (g.marks mark (drop 1 ms) a b l m r ∙ ap (λ (v : ℕ). s.covers && mark v) (later ms k));
      index = λ e. let w = g.index e in omega arith;
    }

    -- It begins past x.
    goes_before : x < i.start → Goes n (i ∷ is) x 0 (side false i.start)
    unfolding covered leading ended_first seen
    goes_before h = record {
      past = h;
      inside = omega arith;
      letters = λ y l m. rw (lt-leb i.start y m) (covered_early n (i.end + 1) y is c.3 (omega arith));
      then = λ q l m. rw (lt-leb i.end q (omega arith));
      marks = λ mark ms a b l m r.
          rw (le-ltb (max i.start a) (min i.end b) (omega arith)) (seen_early n mark (i.end + 1) a b is (drop 1 ms) c.3 (omega arith));
      index = λ e. absurd (let z : ◌≡◌ {A = ℕ} 0 1 = cc in omega arith);
    }

    -- It holds x.
    goes_within : i.start ≤ x → x < i.end → Goes n (i ∷ is) x 0 (side true i.end)
    unfolding covered leading ended_first seen
    goes_within h h' = record {
      past = h';
      inside = c.2;
      letters = λ y l m. rw (le-leb i.start y (omega arith), lt-ltb y i.end m);
      then = λ q l m. rw (ended_early n (i.end + 1) q is c.3 (omega arith)) (omega arith);
      marks = λ mark ms a b l m r.
          rw (lt-ltb (max i.start a) (min i.end b) (omega arith), seen_early n mark (i.end + 1) a b is (drop 1 ms) c.3 (omega arith))
          (or-false (mark (get_or ms 0 0)));
      index = λ e. omega arith;
    }

  pub goes : (lo : ℕ) (is : List Interval) → Ascending n 1 lo is → x < n → Goes n is x (ended is x) (side_of n (drop (ended is x) is) x)
  unfolding leading side_of
  goes lo [] c h = goes_none h
  goes lo (i ∷ is) c h =
      ⊎_elim
      (λ gt. rw (lt-leb i.end x gt)
      (⊎_elim
      (λ lt. rw (lt-ltb x i.start lt) (goes_before lo i is c lt))
      (λ ge. rw (le-ltb x i.start ge) (goes_within lo i is c ge gt))
      (lt_or_le x i.start)))
      (λ le. rw (le-leb i.end x le) (goes_past lo i is c le (goes (i.end + 1) is c.3 h)))
      (lt_or_le x i.end)

-- Each interval of a list of the usual kind has its own marks.
module _ (n : ℕ) where
  marks_first : (lo m : ℕ) (i : Interval) (is : List Interval) (ms : List ℕ) → Ascending n 1 lo (i ∷ is) → marks_for (i ∷ is) (m ∷ ms) i ≡ m % 4
  unfolding seen
  marks_first lo m i is ms a =
      marks_part (i ∷ is) (m ∷ ms) i true m
      (λ mark.
      rw (lt-ltb (max i.start i.start) (min i.end i.end) (omega arith), seen_early n mark (i.end + 1) i.start i.end is ms a.3 (omega arith))
      (or-false (mark m)))

  marks_others : (lo m : ℕ) (i : Interval) (is : List Interval) (ms : List ℕ) (js : List Interval) → i.end ≤ lo → Ascending n 1 lo js
      → map (marks_for (i ∷ is) (m ∷ ms)) js ≡ map (marks_for is ms) js
  unfolding marks_for seen
  marks_others lo m i is ms [] h a = refl
  marks_others lo m i is ms (j ∷ js) h a =
      ap₂ (λ (v : ℕ) (vs : List ℕ). v ∷ vs)
      (rw (le-ltb (max i.start j.start) (min i.end j.end) (omega arith)))
      (marks_others (j.end + 1) m i is ms js (omega arith) a.3)

  pub own_marks : (lo : ℕ) (is : List Interval) (ms : List ℕ) → Ascending n 1 lo is → length is ≤ length ms
      → map (marks_for is ms) is ≡ map (λ (m : ℕ). m % 4) (take (length is) ms)
  own_marks lo [] ms a h = refl
  own_marks lo (i ∷ is) [] a h = absurd (let b : ⊥ = omega arith in b)
  own_marks lo (i ∷ is) (m ∷ ms) a h =
      ap₂ (λ (v : ℕ) (vs : List ℕ). v ∷ vs) (marks_first lo m i is ms a)
      (marks_others (i.end + 1) m i is ms is (omega arith) a.3 ∙ own_marks (i.end + 1) is ms a.3 (omega arith))
