-- The test of a covered letter agrees with `Covers`; how many letters of a stretch are covered.
use Rattle.std.proofs.Common.{ℕ, zero, suc, ◌+◌, ◌-◌, ◌≤◌, ◌<◌, ◌≡◌, refl, sym, ap₂, ◌∙◌, Bool, true, false, ◌&&◌, ◌||◌, cond, List, [], ◌∷◌, ◌⊎◌, inl, inr, ⊎_elim, ◌↔◌, arith, ltb, leb}
use borrow.Author.Tests.{leb-true, ltb-true, le-leb, lt-leb, lt-ltb}
use Rattle.intervals.specs.declared.Interval.{Interval}
use Rattle.intervals.specs.Interval.{Covers, covered, covered_in}
use Rattle.intervals.proofs.Order.{lt_or_le}

not_true : false ≡ true → ⊥
not_true h = let z : ◌≡◌ {A = ℕ} 0 1 = cc in omega arith

pub or_agrees : (a b : Bool) {P Q : Type 0} → ((a ≡ true) ↔ P) → ((b ≡ true) ↔ Q) → ((a || b) ≡ true) ↔ (P ⊎ Q)
or_agrees true b p q = ((λ h. inl (p.0 refl)), (λ h. refl))
or_agrees false b p q = ((λ h. inr (q.0 h)), (λ h. ⊎_elim (λ c. absurd (not_true (p.1 c))) (λ c. q.1 c) h))

pub and_agrees : (a b : Bool) {P Q : Type 0} → ((a ≡ true) ↔ P) → ((b ≡ true) ↔ Q) → ((a && b) ≡ true) ↔ (P × Q)
and_agrees true b p q = ((λ h. (p.0 refl, q.0 h)), (λ h. q.1 h.1))
and_agrees false b p q = ((λ h. absurd (not_true h)), (λ h. p.1 h.0))

pub leb_agrees : (a b : ℕ) → (leb a b ≡ true) ↔ (a ≤ b)
leb_agrees a b = ((λ h. leb-true a b h), (λ h. le-leb a b h))

pub ltb_agrees : (a b : ℕ) → (ltb a b ≡ true) ↔ (a < b)
ltb_agrees a b = ((λ h. ltb-true a b h), (λ h. lt-ltb a b h))

pub covered_agrees : (is : List Interval) (x : ℕ) → (covered is x ≡ true) ↔ Covers is x
unfolding covered
covered_agrees [] x = ((λ h. absurd (not_true h)), (λ h. absurd h))
covered_agrees (i ∷ is) x =
    or_agrees (leb i.start x && ltb x i.end) (covered is x)
    (and_agrees (leb i.start x) (ltb x i.end) (leb_agrees i.start x) (ltb_agrees x i.end))
    (covered_agrees is x)

-- Two tests of one thing are equal.
pub same_test : (a b : Bool) → (a ≡ true → b ≡ true) → (b ≡ true → a ≡ true) → a ≡ b
same_test true b h k = sym (h refl)
same_test false true h k = k refl
same_test false false h k = refl

pub covered_same : (is js : List Interval) (x : ℕ) → Covers is x ↔ Covers js x → covered is x ≡ covered js x
covered_same is js x e =
    let a = covered_agrees is x in
    let b = covered_agrees js x in
    same_test (covered is x) (covered js x) (λ h. b.1 (e.0 (a.0 h))) (λ h. a.1 (e.1 (b.0 h)))

module _ (is : List Interval) (a : ℕ) where
  pub covered_more : (b : ℕ) → a ≤ b → covered_in is a (suc b) ≡ covered_in is a b + cond (covered is b) 1 0
  unfolding covered_in
  covered_more b h = rw (le-leb a b h)

  -- A stretch of no letters.
  pub covered_empty : (b : ℕ) → b ≤ a → covered_in is a b ≡ 0
  unfolding covered_in
  covered_empty zero h = refl
  covered_empty (suc b) h = rw (lt-leb a b (omega arith), covered_empty b (omega arith))

  pub covered_all : (b : ℕ) → a ≤ b → ((x : ℕ) → a ≤ x → x < b → Covers is x) → covered_in is a b ≡ b - a
  covered_all zero h c = covered_empty zero (omega arith) ∙ omega arith
  covered_all (suc b) h c =
      ⊎_elim
      (λ gt. covered_empty (suc b) (omega arith) ∙ omega arith)
      (λ le.
      let e = covered_more b le in
      let t = (covered_agrees is b).1 (c b le (omega arith)) in
      let ih = covered_all b le (λ x l m. c x l (omega arith)) in
      rw (e, t, ih) (omega arith))
      (lt_or_le b a)

  pub covered_none : (b : ℕ) → ((x : ℕ) → a ≤ x → x < b → Covers is x → ⊥) → covered_in is a b ≡ 0
  covered_none zero c = covered_empty zero (omega arith)
  covered_none (suc b) c =
      ⊎_elim
      (λ gt. covered_empty (suc b) (omega arith))
      (λ le.
      let e = covered_more b le in
      let t : covered is b ≡ false =
      same_test (covered is b) false (λ h. absurd (c b le (omega arith) ((covered_agrees is b).0 h))) (λ h. absurd (not_true h)) in
      let ih = covered_none b (λ x l m. c x l (omega arith)) in
      rw (e, t, ih))
      (lt_or_le b a)

  pub covered_at_most : (b : ℕ) → covered_in is a b ≤ b - a
  covered_at_most zero = omega (arith, covered_empty zero (omega arith))
  covered_at_most (suc b) =
      ⊎_elim
      (λ gt. omega (arith, covered_empty (suc b) (omega arith)))
      (λ le. omega (arith, covered_more b le, covered_at_most b, at_most_one (covered is b)))
      (lt_or_le b a)
    where
      at_most_one : (t : Bool) → cond t 1 0 ≤ 1
      at_most_one true = omega arith
      at_most_one false = omega arith

-- The letters before m, and those from m on.
pub covered_split : (is : List Interval) (a m b : ℕ) → a ≤ m → m ≤ b → covered_in is a b ≡ covered_in is a m + covered_in is m b
covered_split is a m zero h l =
    let q : m ≡ 0 = omega arith in
    rw (q, covered_empty is a zero (omega arith), covered_empty is 0 zero (omega arith))
covered_split is a m (suc b) h l =
    ⊎_elim
    (λ gt. let q : m ≡ suc b = omega arith in rw (q, covered_empty is (suc b) (suc b) (omega arith)) (omega arith))
    (λ le. omega (arith, covered_more is a b (omega arith), covered_more is m b le, covered_split is a m b h le))
    (lt_or_le b m)

-- Lists that cover the same letters of a stretch cover equally many.
pub covered_equal : (is js : List Interval) (a b : ℕ) → ((x : ℕ) → a ≤ x → x < b → Covers is x ↔ Covers js x)
    → covered_in is a b ≡ covered_in js a b
covered_equal is js a zero e = covered_empty is a zero (omega arith) ∙ sym (covered_empty js a zero (omega arith))
covered_equal is js a (suc b) e =
    ⊎_elim
    (λ gt. covered_empty is a (suc b) (omega arith) ∙ sym (covered_empty js a (suc b) (omega arith)))
    (λ le.
    covered_more is a b le
    ∙ ap₂ (λ (n : ℕ) (t : Bool). n + cond t 1 0) (covered_equal is js a b (λ x l m. e x l (omega arith)))
    (covered_same is js b (e b le (omega arith)))
    ∙ sym (covered_more js a b le))
    (lt_or_le b a)
