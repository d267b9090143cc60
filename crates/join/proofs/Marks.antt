-- Marks: which of our intervals give theirs, the two marks of a byte, and the marks of an interval made of two.
use Rattle.std.proofs.Common.{ℕ, zero, suc, ◌+◌, ◌*◌, ◌/◌, ◌%◌, ◌≤◌, ◌<◌, min, max, ◌≡◌, refl, sym, ap, ap₂, ◌∙◌, Bool, true, false, ◌&&◌, ◌||◌, cond, List, [], ◌∷◌, ◌⊎◌, inl, inr, ⊎_elim, ◌↔◌, arith, bit_or, ltb, eqb, length, drop, get_or}
use mathlib.Core.Bool.{and-false, or-true}
use borrow.Author.Tests.{ltb-true, lt-ltb, le-ltb, eqb-true}
use Rattle.intervals.specs.declared.Interval.{Interval}
use Rattle.intervals.specs.Interval.{interval, Holds}
use Rattle.intervals.proofs.Order.{lt_or_le}
use Rattle.intervals.proofs.Counted.{or_agrees, and_agrees, ltb_agrees, same_test}
use Rattle.intervals.specs.Merge.{byte_of}
use Rattle.join.specs.Joining.{meet, forward, reverse, seen, marks_for}
use Rattle.join.specs.Promised.{Gives}
use Rattle.join.proofs.Every.{every, every_at}

-- Intervals share a letter exactly when some letter lies in both.
meet_agrees : (i j : Interval) → (meet i j ≡ true) ↔ ((x : ℕ) × Holds i x × Holds j x)
meet_agrees i j = (
  (λ h. let l = ltb-true (max i.start j.start) (min i.end j.end) h in (max i.start j.start, omega arith, omega arith)),
  (λ h. lt-ltb (max i.start j.start) (min i.end j.end) (omega arith)),
)

-- The numbers 0 and 1 as bits.
bit : (r w : ℕ) → r < 2 → cond (eqb r 1) w 0 ≡ r * w
bit zero w h = omega arith
bit (suc zero) w h = omega arith
bit (suc (suc r)) w h = absurd (let b : ⊥ = omega arith in b)

byte_sum : (f r : Bool) → byte_of f r ≡ cond f 1 0 + cond r 2 0
byte_sum true true = refl
byte_sum true false = refl
byte_sum false true = refl
byte_sum false false = refl

byte_low : (m : ℕ) → byte_of (forward m) (reverse m) ≡ m % 4
byte_low m =
    let e : cond (forward m) 1 0 + cond (reverse m) 2 0 ≡ m % 4 = omega (arith, bit (m % 2) 1 (omega arith), bit (m / 2 % 2) 2 (omega arith)) in
    byte_sum (forward m) (reverse m) ∙ e

abbrev or_right_lem : Bool → Bool → Bool → Bool → Bool
or_right_lem a b c d = eqb (byte_of (a || c) (b || d)) (bit_or (byte_of a b) (byte_of c d))

or_right_all : every (λ a. every (λ b. every (λ c. every (λ d. or_right_lem a b c d)))) ≡ true
unfolding every
or_right_all = refl

byte_or : (a b c d : Bool) → byte_of (a || c) (b || d) ≡ bit_or (byte_of a b) (byte_of c d)
byte_or a b c d =
    eqb-true (byte_of (a || c) (b || d)) (bit_or (byte_of a b) (byte_of c d))
    (every_at (λ z. or_right_lem a b c z)
    (every_at (λ y. every (λ z. or_right_lem a b y z))
    (every_at (λ x. every (λ y. every (λ z. or_right_lem a x y z)))
    (every_at (λ v. every (λ x. every (λ y. every (λ z. or_right_lem v x y z)))) or_right_all a) b) c) d)

-- The marks of a byte of two marks are these.
forward_byte : (f r : Bool) → forward (byte_of f r) ≡ f
forward_byte true true = refl
forward_byte true false = refl
forward_byte false true = refl
forward_byte false false = refl

reverse_byte : (f r : Bool) → reverse (byte_of f r) ≡ r
reverse_byte true true = refl
reverse_byte true false = refl
reverse_byte false true = refl
reverse_byte false false = refl

pub later : (ms : List ℕ) (p : ℕ) → get_or (drop 1 ms) p 0 ≡ get_or ms (suc p) 0
later [] p = refl
later (m ∷ ms) p = refl

seen_agrees : (mark : ℕ → Bool) (is : List Interval) (ms : List ℕ) (j : Interval) → (seen mark is ms j ≡ true) ↔ Gives mark is ms j
unfolding seen
seen_agrees mark [] ms j = ((λ h. absurd (let z : ◌≡◌ {A = ℕ} 0 1 = cc in omega arith)), (λ h. absurd (let b : ⊥ = omega (arith, h.1) in b)))
seen_agrees mark (i ∷ is) ms j =
    let both =
    or_agrees (meet i j && mark (get_or ms 0 0)) (seen mark is (drop 1 ms) j)
    (and_agrees (meet i j) (mark (get_or ms 0 0)) {Q = mark (get_or ms 0 0) ≡ true} (meet_agrees i j) ((λ u. u), (λ u. u)))
    (seen_agrees mark is (drop 1 ms) j) in (
      (λ h. ⊎_elim
          (λ u. (zero, omega arith, u.0, u.1))
          (λ u. (suc u.0, omega (arith, u.1), u.2, ap mark (sym (later ms u.0)) ∙ u.3))
          (both.0 h)),
      (λ h. both.1 (elsewhere h.0 h.1 h.2 h.3)),
    )
  where
    elsewhere : (p : ℕ) → p < suc (length is) → ((x : ℕ) × Holds (get_or (i ∷ is) p (interval 0 0)) x × Holds j x) → mark (get_or ms p 0) ≡ true
        → (((x : ℕ) × Holds i x × Holds j x) × (mark (get_or ms 0 0) ≡ true)) ⊎ Gives mark is (drop 1 ms) j
    elsewhere zero h u v = inl (u, v)
    elsewhere (suc p) h u v = inr (p, omega arith, u, ap mark (later ms p) ∙ v)

-- An interval has the marks of those of our intervals that share a letter with it, and only those.
pub forward_exactly : (ours : List Interval) (ms : List ℕ) (j : Interval) → (forward (marks_for ours ms j) ≡ true) ↔ Gives forward ours ms j
unfolding marks_for
forward_exactly ours ms j =
    let t = seen_agrees forward ours ms j in
    let e = forward_byte (seen forward ours ms j) (seen reverse ours ms j) in
    ((λ h. t.0 (sym e ∙ h)), (λ h. e ∙ t.1 h))

pub reverse_exactly : (ours : List Interval) (ms : List ℕ) (j : Interval) → (reverse (marks_for ours ms j) ≡ true) ↔ Gives reverse ours ms j
unfolding marks_for
reverse_exactly ours ms j =
    let t = seen_agrees reverse ours ms j in
    let e = reverse_byte (seen forward ours ms j) (seen reverse ours ms j) in
    ((λ h. t.0 (sym e ∙ h)), (λ h. e ∙ t.1 h))

-- No mark is seen where no interval shares a letter.
pub seen_empty : (mark : ℕ → Bool) (is : List Interval) (ms : List ℕ) (s : ℕ) → seen mark is ms (interval s s) ≡ false
unfolding seen
seen_empty mark [] ms s = refl
seen_empty mark (i ∷ is) ms s = rw (le-ltb (max i.start s) (min i.end s) (omega arith), seen_empty mark is (drop 1 ms) s)

-- An interval [s, q) made of [s, p) and [p, q).
module _ (s p q : ℕ) (h : s ≤ p) (l : p ≤ q) where
  meet_split : (i : Interval) → meet i (interval s q) ≡ (meet i (interval s p) || meet i (interval p q))
  meet_split i =
      let a = max i.start s in
      let b = max i.start p in
      let c = min i.end p in
      let d = min i.end q in
      let e = or_agrees (ltb a c) (ltb b d) (ltb_agrees a c) (ltb_agrees b d) in
      same_test (ltb a d) (ltb a c || ltb b d)
      (λ u. let v = ltb-true a d u in e.1 (⊎_elim (λ w. inl (omega arith)) (λ w. inr (omega arith)) (lt_or_le a p)))
      (λ u. lt-ltb a d (⊎_elim (λ w. omega arith) (λ w. omega arith) (e.0 u)))

  regroup : (a b m x y : Bool) → (((a || b) && m) || (x || y)) ≡ (((a && m) || x) || ((b && m) || y))
  regroup true b true x y = refl
  regroup true b false x y = rw (and-false b)
  regroup false true true x y = rw (or-true x)
  regroup false true false x y = refl
  regroup false false m x y = refl

  seen_split : (mark : ℕ → Bool) (is : List Interval) (ms : List ℕ)
      → seen mark is ms (interval s q) ≡ (seen mark is ms (interval s p) || seen mark is ms (interval p q))
  unfolding seen
  seen_split mark [] ms = refl
  seen_split mark (i ∷ is) ms =
      ap₂ (λ (t u : Bool). (t && mark (get_or ms 0 0)) || u) (meet_split i) (seen_split mark is (drop 1 ms))
      ∙ regroup (meet i (interval s p)) (meet i (interval p q)) (mark (get_or ms 0 0)) (seen mark is (drop 1 ms) (interval s p))
      (seen mark is (drop 1 ms) (interval p q))

module _ (is : List Interval) (ms : List ℕ) where
  pub marks_split : (s p q : ℕ) → s ≤ p → p ≤ q
      → marks_for is ms (interval s q) ≡ bit_or (marks_for is ms (interval s p)) (marks_for is ms (interval p q))
  unfolding marks_for
  marks_split s p q h l =
      ap₂ byte_of (seen_split s p q h l forward is ms) (seen_split s p q h l reverse is ms)
      ∙ byte_or (seen forward is ms (interval s p)) (seen reverse is ms (interval s p)) (seen forward is ms (interval p q))
      (seen reverse is ms (interval p q))

  pub marks_empty : (s : ℕ) → marks_for is ms (interval s s) ≡ 0
  unfolding marks_for
  marks_empty s = ap₂ byte_of (seen_empty forward is ms s) (seen_empty reverse is ms s)

  -- A part over which one interval covers all letters, or none does.
  pub marks_part : (j : Interval) (covers : Bool) (m : ℕ) → ((mark : ℕ → Bool) → seen mark is ms j ≡ (covers && mark m))
      → marks_for is ms j ≡ cond covers (m % 4) 0
  unfolding marks_for
  marks_part j covers m h = ap₂ byte_of (h forward) (h reverse) ∙ go covers
    where
      go : (b : Bool) → byte_of (b && forward m) (b && reverse m) ≡ cond b (m % 4) 0
      go true = byte_low m
      go false = refl
