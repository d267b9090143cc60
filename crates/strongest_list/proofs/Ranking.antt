-- The order of stretches, for any scores: it is strict and total.
use Rattle.std.proofs.Common.{◌≡◌, ℕ, ◌+◌, ◌<◌, ◌≤◌, Bool, true, false, ltb, leb, ◌&&◌, ◌||◌, ℤ, refl, sym, ap₂, ◌∙◌, arith, true≢false, ◌⊎◌, inl, inr, ⊎_elim, eqb, ltb-true, ltb-false, leb-true, leb-false, eqb-true}
use borrow.Author.Tests.{eqb-false}
use Rattle.floats.proofs.Whole.{le_is}
use Rattle.strongest.proofs.Order.{up, down, parts, lt_is}
use Rattle.strongest_list.specs.Stretches.{Stretch, beats}

pub same_stretch : (s t : Stretch) → s.first ≡ t.first → s.size ≡ t.size → s ≡ t
same_stretch s t e g = ap₂ (λ (a b : ℕ). record { first = a; size = b }) e g

-- ---- The test on numbers: x and y are two scores, m and n places, f and g first places.
abbrev test : ℕ → ℕ → ℕ → ℕ → ℕ → ℕ → Bool
test x y m n f g = ltb x y || (leb x y && (ltb n m || (eqb n m && ltb f g)))

record No (x y m n f g : ℕ) : Type 0 where
  le : y ≤ x
  size_le : x ≤ y → m ≤ n
  first_le : x ≤ y → n ≤ m → g ≤ f

record Yes (x y m n f g : ℕ) : Type 0 where
  le : x ≤ y
  size_le : y ≤ x → n ≤ m
  first_lt : y ≤ x → m ≤ n → f < g

test_by : (x y m n f g : ℕ) → ((test x y m n f g ≡ true) × Yes x y m n f g) ⊎ ((test x y m n f g ≡ false) × No x y m n f g)
test_by x y m n f g = go (ltb x y) (leb x y) (ltb n m) (eqb n m) (ltb f g) refl refl refl refl refl
  where
    go : (a b c d e : Bool) → ltb x y ≡ a → leb x y ≡ b → ltb n m ≡ c → eqb n m ≡ d → ltb f g ≡ e
        → (((a || (b && (c || (d && e)))) ≡ true) × Yes x y m n f g) ⊎ (((a || (b && (c || (d && e)))) ≡ false) × No x y m n f g)
    go true b c d e p q r s t =
        let l = ltb-true x y p in
        inl (refl, record { le = omega arith; size_le = λ h. absurd (let z : ⊥ = omega arith in z); first_lt = λ h k. absurd (let z : ⊥ = omega arith in z) })
    go false false c d e p q r s t =
        let l = leb-false x y q in
        inr (refl, record { le = omega arith; size_le = λ h. absurd (let z : ⊥ = omega arith in z); first_le = λ h k. absurd (let z : ⊥ = omega arith in z) })
    go false true true d e p q r s t =
        let l = ltb-true n m r in
        let j = leb-true x y q in
        inl (refl, record { le = omega arith; size_le = λ h. omega arith; first_lt = λ h k. absurd (let z : ⊥ = omega arith in z) })
    go false true false true true p q r s t =
        let l = eqb-true n m s in
        let j = leb-true x y q in
        let i = ltb-true f g t in
        inl (refl, record { le = omega arith; size_le = λ h. omega arith; first_lt = λ h k. i })
    go false true false true false p q r s t =
        let l = eqb-true n m s in
        let j = ltb-false x y p in
        let i = ltb-false f g t in
        inr (refl, record { le = omega arith; size_le = λ h. omega arith; first_le = λ h k. omega arith })
    go false true false false e p q r s t =
        let l = eqb-false n m s in
        let j = ltb-false x y p in
        let i = ltb-false n m r in
        inr (refl, record { le = omega arith; size_le = λ h. omega arith; first_le = λ h k. absurd (l (omega arith)) })

module _ (score : Stretch → ℤ) where
  abbrev a : Stretch → ℕ
  a s = up (score s)

  abbrev b : Stretch → ℕ
  b s = down (score s)

  -- t is as good as s, or better.
  pub record Below (s t : Stretch) : Type 0 where
    pub le : a s + b t ≤ a t + b s
    pub size_le : a t + b s ≤ a s + b t → s.size ≤ t.size
    pub first_le : a t + b s ≤ a s + b t → t.size ≤ s.size → t.first ≤ s.first

  as_test : (s t : Stretch) → beats score s t ≡ test (a t + b s) (a s + b t) s.size t.size s.first t.first
  as_test s t =
      ap₂ (λ (x y : Bool). x || (y && (ltb t.size s.size || (eqb t.size s.size && ltb s.first t.first))))
      (lt_is (score t) (score s) (a t) (b t) (a s) (b s) (parts (score t)) (parts (score s)))
      (le_is (score t) (score s) (a t) (b t) (a s) (b s) (parts (score t)) (parts (score s)))

  -- ---- As a test: s beats t, or does not.
  pub below : (s t : Stretch) → beats score s t ≡ false → Below s t
  below s t e =
      ⊎_elim
      (λ p. absurd (true≢false (sym p.0 ∙ sym (as_test s t) ∙ e)))
      (λ p. record { le = omega (arith, p.1.le); size_le = λ h. p.1.size_le h; first_le = λ h k. p.1.first_le h k })
      (test_by (a t + b s) (a s + b t) s.size t.size s.first t.first)

  pub above : (s t : Stretch) → beats score s t ≡ true → Below t s
  above s t e =
      ⊎_elim
      (λ p. record { le = omega (arith, p.1.le); size_le = λ h. p.1.size_le h; first_le = λ h k. let l = p.1.first_lt h k in omega arith })
      (λ p. absurd (true≢false (sym e ∙ as_test s t ∙ p.0)))
      (test_by (a t + b s) (a s + b t) s.size t.size s.first t.first)

  pub not_beats : (s t : Stretch) → Below s t → beats score s t ≡ false
  not_beats s t h =
      ⊎_elim
      (λ p.
      let same : a t + b s ≤ a s + b t = p.1.le in
      let l = h.le in
      let m = h.size_le same in
      let n = p.1.size_le l in
      let f = h.first_le same n in
      let g = p.1.first_lt l m in
      absurd (let z : ⊥ = omega arith in z))
      (λ p. as_test s t ∙ p.0)
      (test_by (a t + b s) (a s + b t) s.size t.size s.first t.first)

  -- ---- The order.
  pub below_refl : (s : Stretch) → Below s s
  below_refl s = record { le = omega arith; size_le = λ h. omega arith; first_le = λ h k. omega arith }

  pub below_trans : (s t u : Stretch) → Below s t → Below t u → Below s u
  below_trans s t u h k =
      let p = h.le in
      let q = k.le in
      record {
        le = omega arith;
        size_le = λ e.
            let i = h.size_le (omega arith) in
            let j = k.size_le (omega arith) in
            omega arith;
        first_le = λ e l.
            let i = h.size_le (omega arith) in
            let j = k.size_le (omega arith) in
            let m = h.first_le (omega arith) (omega arith) in
            let n = k.first_le (omega arith) (omega arith) in
            omega arith;
      }

  pub below_both : (s t : Stretch) → Below s t → Below t s → s ≡ t
  below_both s t h k =
      let i = h.size_le k.le in
      let j = k.size_le h.le in
      let m = h.first_le k.le j in
      let n = k.first_le h.le i in
      same_stretch s t (omega arith) (omega arith)
