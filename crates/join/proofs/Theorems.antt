-- The letters of a joined list are the wanted ones; what follows for its shape, its number of letters, lists that change places, an empty list and a list joined with itself.
use Rattle.std.proofs.Common.{ℕ, zero, suc, ◌+◌, ◌%◌, ◌≤◌, ◌<◌, ◌≡◌, refl, sym, ap, ◌∙◌, Bool, true, false, ◌&&◌, ◌||◌, not, cond, List, [], map, arith, length, take}
use mathlib.Core.Bool.{or-false, or_comm, and_comm}
use Rattle.intervals.specs.declared.Interval.{Interval}
use Rattle.intervals.specs.Interval.{covered, covered_in, Canonical}
use Rattle.intervals.proofs.Counted.{covered_agrees, same_test, covered_empty, covered_more}
use Rattle.join.specs.Stretches.{stretches}
use Rattle.join.specs.Joining.{wanted, wanted_at, joined, marks_for, joined_marks}
use Rattle.join.specs.declared.Joined.{Joined}
use Rattle.join.specs.declared.Joined.TheVariants.{Either, Both, Outside}
use Rattle.join.proofs.Stretches.{stretches_canonical, stretches_covers, stretches_none, stretches_own, stretches_same}
use Rattle.join.proofs.Sides.{own_marks}

module _ (kind : Joined) (n : ℕ) (ours theirs : List Interval) where
  -- A list of the usual kind within n, whatever the two lists are.
  pub joined_canonical : Canonical n 1 (joined kind n ours theirs)
  unfolding joined
  joined_canonical = stretches_canonical (wanted_at kind ours theirs) n

  -- The one fact of all three kinds.
  pub joined_covered : (x : ℕ) → x < n → covered (joined kind n ours theirs) x ≡ wanted kind (covered ours x) (covered theirs x)
  unfolding joined
  joined_covered x l =
      let a = covered_agrees (stretches (wanted_at kind ours theirs) n) x in
      let c = stretches_covers (wanted_at kind ours theirs) n x in
      same_test (covered (stretches (wanted_at kind ours theirs) n) x) (wanted_at kind ours theirs x)
      (λ h. (c.0 (a.0 h)).1) (λ h. a.1 (c.1 (l, h)))

-- Letters of joined lists, counted together.
module _ (n : ℕ) (ours theirs : List Interval) where
  -- The letters wanted by one kind and those wanted by another, if each letter counts for them together as often as `times` says.
  counted : (one two : Joined) (times : Bool → Bool → ℕ)
      → ((o t : Bool) → cond (wanted one o t) 1 0 + cond (wanted two o t) 1 0 ≡ times o t)
      → (total : ℕ → ℕ) → total 0 ≡ 0 → ((x : ℕ) → x < n → total (suc x) ≡ total x + times (covered ours x) (covered theirs x))
      → covered_in (joined one n ours theirs) 0 n + covered_in (joined two n ours theirs) 0 n ≡ total n
  counted one two times each total none more = go n (omega arith)
    where
      go : (x : ℕ) → x ≤ n → covered_in (joined one n ours theirs) 0 x + covered_in (joined two n ours theirs) 0 x ≡ total x
      go zero h =
          rw (covered_empty (joined one n ours theirs) 0 0 (omega arith), covered_empty (joined two n ours theirs) 0 0 (omega arith)) (sym none)
      go (suc x) h =
          let a = covered_more (joined one n ours theirs) 0 x (omega arith) in
          let b = covered_more (joined two n ours theirs) 0 x (omega arith) in
          rw (a, b, joined_covered one n ours theirs x (omega arith), joined_covered two n ours theirs x (omega arith))
          (omega (arith, each (covered ours x) (covered theirs x), go x (omega arith), more x (omega arith)))

  -- Those of either and those of both are together as many as ours and theirs.
  pub joined_letters : covered_in (joined Either n ours theirs) 0 n + covered_in (joined Both n ours theirs) 0 n ≡ covered_in ours 0 n + covered_in theirs 0 n
  joined_letters =
      counted Either Both (λ o t. cond o 1 0 + cond t 1 0) each (λ x. covered_in ours 0 x + covered_in theirs 0 x)
      (rw (covered_empty ours 0 0 (omega arith), covered_empty theirs 0 0 (omega arith)) refl)
      (λ x h. omega (arith, covered_more ours 0 x (omega arith), covered_more theirs 0 x (omega arith)))
    where
      each : (o t : Bool) → cond (o || t) 1 0 + cond (o && t) 1 0 ≡ cond o 1 0 + cond t 1 0
      each true true = refl
      each true false = refl
      each false true = refl
      each false false = refl

  -- Those in ours and outside theirs and those of both are together ours.
  pub outside_letters : covered_in (joined Outside n ours theirs) 0 n + covered_in (joined Both n ours theirs) 0 n ≡ covered_in ours 0 n
  outside_letters =
      counted Outside Both (λ o t. cond o 1 0) each (λ x. covered_in ours 0 x)
      (covered_empty ours 0 0 (omega arith))
      (λ x h. covered_more ours 0 x (omega arith))
    where
      each : (o t : Bool) → cond (o && not t) 1 0 + cond (o && t) 1 0 ≡ cond o 1 0
      each true true = refl
      each true false = refl
      each false true = refl
      each false false = refl

  -- Either and both stay as they are where ours and theirs change places.
  pub either_symmetric : joined Either n ours theirs ≡ joined Either n theirs ours
  unfolding joined
  either_symmetric =
      stretches_same (wanted_at Either ours theirs) (wanted_at Either theirs ours) n (λ x _. or_comm (covered ours x) (covered theirs x))

  pub both_symmetric : joined Both n ours theirs ≡ joined Both n theirs ours
  unfolding joined
  both_symmetric =
      stretches_same (wanted_at Both ours theirs) (wanted_at Both theirs ours) n (λ x _. and_comm (covered ours x) (covered theirs x))

module _ (n : ℕ) (is : List Interval) (a : Canonical n 1 is) where
  -- Either with an empty list is the other.
  pub either_none : joined Either n is [] ≡ is
  unfolding joined covered
  either_none =
      stretches_same (wanted_at Either is []) (covered is) n (λ x l. or-false (covered is x)) ∙ stretches_own n is a

  -- Its marks are ours, of each byte the two bits that count.
  pub either_none_marks : (ms : List ℕ) → length is ≤ length ms → joined_marks Either n is ms [] ≡ map (λ (m : ℕ). m % 4) (take (length is) ms)
  either_none_marks ms h = ap (λ (js : List Interval). map (marks_for is ms) js) either_none ∙ own_marks n 0 is ms a h

  pub either_only : joined Either n [] is ≡ is
  unfolding joined covered
  either_only = stretches_same (wanted_at Either [] is) (covered is) n (λ x l. refl) ∙ stretches_own n is a

-- No letter lies outside its own list.
pub outside_itself : (n : ℕ) (is : List Interval) → joined Outside n is is ≡ []
unfolding joined stretches
outside_itself n is = stretches_none (wanted_at Outside is is) 0 n (omega arith) (λ x l m. none (covered is x))
  where
    none : (b : Bool) → (b && not b) ≡ false
    none true = refl
    none false = refl
