-- How long a joined list is: each interval begins at a letter that passes where the one before it does not, and such letters are few.
use Rattle.std.proofs.Common.{ℕ, zero, suc, ◌+◌, ◌≤◌, ◌≡◌, refl, ap, Bool, true, false, ◌&&◌, not, cond, List, [], ◌∷◌, ⊎_elim, arith, ltb, leb, length}
use borrow.Author.Tests.{leb-true, lt-ltb, le-ltb, le-leb, lt-leb}
use Rattle.intervals.specs.declared.Interval.{Interval}
use Rattle.intervals.specs.Interval.{Covers, covered, Ascending}
use Rattle.intervals.specs.Save.{staying, save}
use Rattle.intervals.proofs.Order.{lt_or_le}
use Rattle.intervals.proofs.Saving.{save_touch, save_past}
use Rattle.join.specs.Stretches.{stretches}
use Rattle.join.specs.Joining.{wanted, wanted_at, joined}
use Rattle.join.specs.declared.Joined.{Joined}
use Rattle.join.specs.declared.Joined.TheVariants.{Either, Both, Outside}
use Rattle.join.proofs.Every.{every, every_at}
use Rattle.join.proofs.Stretches.{stretches_canonical, stretches_covers}

abbrev one : Bool → ℕ
one b = cond b 1 0

-- Whether the letter before x passes.
abbrev before : (ℕ → Bool) → ℕ → Bool
before f zero = false
before f (suc x) = f x

-- How many letters of n pass where the one before does not.
unfoldable rises : (ℕ → Bool) → ℕ → ℕ
rises f zero = 0
rises f (suc x) = rises f x + one (f x && not (before f x))

-- A save adds one interval at most, and none where a letter just before it is covered.
module _ (n k s e : ℕ) where
  save_most : (lo : ℕ) (is : List Interval) → Ascending n k lo is → length (save is s e) ≤ length is + 1
  unfolding save staying
  save_most lo [] a = omega arith
  save_most lo (i ∷ is) a =
      ⊎_elim
      (λ gt. rw (save_past n k lo s e i is a gt) (omega (arith, save_most (i.end + 1) is a.3)))
      (λ le. rw (save_touch n k lo s e i is a le) (omega arith))
      (lt_or_le i.end s)

  save_touching : (y : ℕ) → s ≡ y + 1 → (lo : ℕ) (is : List Interval) → Ascending n k lo is → Covers is y → length (save is s e) ≤ length is
  save_touching y q lo [] a c = absurd c
  save_touching y q lo (i ∷ is) a c =
      ⊎_elim
      (λ gt. rw (save_past n k lo s e i is a gt)
      (omega (arith, save_touching y q (i.end + 1) is a.3 (⊎_elim (λ d. absurd (omega arith)) (λ d. d) c))))
      (λ le. rw (save_touch n k lo s e i is a le) (omega arith))
      (lt_or_le i.end s)

module _ (f : ℕ → Bool) where
  stretches_rises : (n : ℕ) → length (stretches f n) ≤ rises f n
  unfolding stretches rises
  stretches_rises zero = omega arith
  stretches_rises (suc x) = go (f x) (before f x) refl (stretches_rises x)
    where
      touching : (x : ℕ) → before f x ≡ true → length (save (stretches f x) x (x + 1)) ≤ length (stretches f x)
      touching zero e = absurd (let z : ◌≡◌ {A = ℕ} 0 1 = cc in omega arith)
      touching (suc y) e =
          save_touching (suc y) 1 (suc y) (suc y + 1) y (omega arith) 0 (stretches f (suc y)) (stretches_canonical f (suc y))
          ((stretches_covers f (suc y) y).1 (omega arith, e))

      go : (b p : Bool) → before f x ≡ p → length (stretches f x) ≤ rises f x
          → length (cond b (save (stretches f x) x (x + 1)) (stretches f x)) ≤ rises f x + one (b && not p)
      go false p e h = omega arith
      go true true e h = omega (arith, touching x e)
      go true false e h = omega (arith, save_most x 1 x (x + 1) 0 (stretches f x) (stretches_canonical f x))

-- Outside theirs a stretch may begin where one of theirs ends: one that has not ended yet is not used.
abbrev unused : Joined → Bool → ℕ
unused Either t = 0
unused Both t = 0
unused Outside t = one t

-- At a letter, with the values o' and t' of the letter before.
abbrev few : Joined → Bool → Bool → Bool → Bool → Bool
few k o' t' o t = leb (one (wanted k o t && not (wanted k o' t')) + unused k t) (unused k t' + (one (o && not o') + one (t && not t')))

abbrev few_all : Joined → Bool
few_all k = every (λ o'. every (λ t'. every (λ o. every (λ t. few k o' t' o t))))

all_few : (k : Joined) → few_all k ≡ true
unfolding every
all_few Either = refl
all_few Both = refl
all_few Outside = refl

each_few : (k : Joined) (o' t' o t : Bool)
    → one (wanted k o t && not (wanted k o' t')) + unused k t ≤ unused k t' + (one (o && not o') + one (t && not t'))
each_few k o' t' o t =
    leb-true (one (wanted k o t && not (wanted k o' t')) + unused k t) (unused k t' + (one (o && not o') + one (t && not t')))
    (every_at (λ y. few k o' t' o y)
    (every_at (λ x. every (λ y. few k o' t' x y))
    (every_at (λ v. every (λ x. every (λ y. few k o' v x y)))
    (every_at (λ u. every (λ v. every (λ x. every (λ y. few k u v x y)))) (all_few k) o') t') o) t)

module _ (k : Joined) (o t : ℕ → Bool) where
  before_joined : (x : ℕ) → before (λ y. wanted k (o y) (t y)) x ≡ wanted k (before o x) (before t x)
  before_joined zero = go k
    where
      go : (k : Joined) → false ≡ wanted k false false
      go Either = refl
      go Both = refl
      go Outside = refl
  before_joined (suc x) = refl

  rises_joined : (n : ℕ) → rises (λ x. wanted k (o x) (t x)) n + unused k (before t n) ≤ rises o n + rises t n
  unfolding rises
  rises_joined zero = go k
    where
      go : (k : Joined) → 0 + unused k false ≤ 0 + 0
      go Either = omega arith
      go Both = omega arith
      go Outside = omega arith
  rises_joined (suc x) =
      rw (before_joined x) (omega (arith, each_few k (before o x) (before t x) (o x) (t x), rises_joined x))

-- An interval begins once.
abbrev within : ℕ → ℕ → ℕ → Bool
within s e x = leb s x && ltb x e

at_most_one : (b : Bool) → one b ≤ 1
at_most_one true = omega arith
at_most_one false = omega arith

module _ (s e : ℕ) where
  no_rise : (y : ℕ) → s ≤ y → (within s e (suc y) && not (within s e y)) ≡ false
  no_rise y l =
      ⊎_elim
      (λ lt. rw (le-leb s (suc y) (omega arith), lt-ltb (suc y) e lt, le-leb s y l, lt-ltb y e (omega arith)))
      (λ ge. rw (le-leb s (suc y) (omega arith), le-ltb (suc y) e ge))
      (lt_or_le (suc y) e)

  rise_here : (x : ℕ) → s ≤ x → rises (within s e) x ≤ one (ltb s x)
      → rises (within s e) x + one (within s e x && not (before (within s e) x)) ≤ 1
  rise_here zero l h = omega (arith, ap one (le-ltb s 0 (omega arith)), at_most_one (within s e 0 && true))
  rise_here (suc y) l h =
      ⊎_elim
      (λ lt. rw (no_rise y (omega arith)) (omega (arith, at_most_one (ltb s (suc y)))))
      (λ ge. omega (arith, ap one (le-ltb s (suc y) ge), at_most_one (within s e (suc y) && not (within s e y))))
      (lt_or_le s (suc y))

  rises_once : (n : ℕ) → rises (within s e) n ≤ one (ltb s n)
  unfolding rises
  rises_once zero = omega arith
  rises_once (suc x) =
      ⊎_elim
      (λ lt. rw (lt-leb s x lt) (omega (arith, rises_once x, ap one (le-ltb s x (omega arith)))))
      (λ le. rw (lt-ltb s (suc x) (omega arith)) (rise_here x le (rises_once x)))
      (lt_or_le x s)

rises_none : (n : ℕ) → rises (covered []) n ≡ 0
unfolding rises covered
rises_none zero = refl
rises_none (suc x) = omega (arith, rises_none x)

rises_list : (is : List Interval) (n : ℕ) → rises (covered is) n ≤ length is
unfolding covered
rises_list [] n = omega (arith, rises_none n)
rises_list (i ∷ is) n =
    let h : rises (covered (i ∷ is)) n + 0 ≤ rises (within i.start i.end) n + rises (covered is) n =
    rises_joined Either (within i.start i.end) (covered is) n in
    omega (arith, rises_once i.start i.end n, at_most_one (ltb i.start n), rises_list is n)

-- The entries of both lists are room for the joined one, whatever the two lists are.
pub joined_room : (k : Joined) (n : ℕ) (ours theirs : List Interval) → length (joined k n ours theirs) ≤ length ours + length theirs
unfolding joined
joined_room k n ours theirs =
    omega (
      arith,
      stretches_rises (wanted_at k ours theirs) n,
      rises_joined k (covered ours) (covered theirs) n,
      rises_list ours n,
      rises_list theirs n,
    )
