-- The letters that pass a test, as a list: its shape, its letters, a list that is told by its letters, and a piece of letters more.
use Rattle.std.proofs.Common.{ℕ, zero, suc, ◌+◌, ◌≤◌, ◌<◌, ◌≡◌, refl, sym, ap, ap₂, ◌∙◌, Bool, true, false, cond, true≢false, List, [], ◌∷◌, ◌++◌, ◌⊎◌, inl, inr, ⊎_elim, ◌↔◌, arith}
use Rattle.intervals.specs.declared.Interval.{Interval}
use Rattle.intervals.specs.Interval.{interval, Holds, Covers, covered, Ascending, Canonical}
use Rattle.intervals.specs.Terms.Bounds.{EndsBelow}
use Rattle.intervals.specs.Save.{save}
use Rattle.intervals.specs.Merge.{nonempty}
use Rattle.intervals.proofs.Order.{lt_or_le}
use Rattle.intervals.proofs.Joining.{nonempty_some}
use Rattle.intervals.proofs.Shape.{ascending_more}
use Rattle.intervals.proofs.Covered.{append_covers, nonempty_covers}
use Rattle.intervals.proofs.Counted.{covered_agrees}
use Rattle.intervals.proofs.Saving.{save_canonical, save_covers}
use Rattle.intervals.proofs.Theorems.{canonical_unique}
use Rattle.join.specs.Stretches.{stretches}

pub ascending_ends : (n k lo e : ℕ) (is : List Interval) → n < e → Ascending n k lo is → EndsBelow e is
ascending_ends n k lo e [] h a = tt
ascending_ends n k lo e (i ∷ is) h a = (omega arith, ascending_ends n k (i.end + 1) e is h a.3)

module _ (f : ℕ → Bool) where
  pub stretches_canonical : (n : ℕ) → Canonical n 1 (stretches f n)
  unfolding stretches
  stretches_canonical zero = tt
  stretches_canonical (suc x) =
      let a = ascending_more x (suc x) 1 0 (stretches f x) (omega arith) (stretches_canonical x) in
      go (f x) a (save_canonical (suc x) 1 x (x + 1) (stretches f x) (omega arith) (omega arith) a)
    where
      go : (b : Bool) → Canonical (suc x) 1 (stretches f x) → Canonical (suc x) 1 (save (stretches f x) x (x + 1))
          → Canonical (suc x) 1 (cond b (save (stretches f x) x (x + 1)) (stretches f x))
      go true a s = s
      go false a s = a

  -- One fact: the list covers the letters that pass, and no others.
  pub stretches_covers : (n x : ℕ) → Covers (stretches f n) x ↔ ((x < n) × (f x ≡ true))
  unfolding stretches
  stretches_covers zero x = ((λ h. absurd h), (λ h. absurd (omega arith)))
  stretches_covers (suc y) x =
      let a = stretches_canonical y in
      go (f y) refl (stretches_covers y x) (save_covers y 1 y (y + 1) (stretches f y) x a (ascending_ends y 1 0 (y + 1) (stretches f y) (omega arith) a))
    where
      last : (b : Bool) → f y ≡ b → f x ≡ true → x < suc y → (x < y) ⊎ ((x ≡ y) × (b ≡ true))
      last b e h l =
          ⊎_elim (λ lt. inl lt) (λ ge. let q : x ≡ y = omega arith in inr (q, sym e ∙ ap f (sym q) ∙ h)) (lt_or_le x y)

      go : (b : Bool) → f y ≡ b → Covers (stretches f y) x ↔ ((x < y) × (f x ≡ true))
          → Covers (save (stretches f y) y (y + 1)) x ↔ (Covers (stretches f y) x ⊎ Holds (interval y (y + 1)) x)
          → Covers (cond b (save (stretches f y) y (y + 1)) (stretches f y)) x ↔ ((x < suc y) × (f x ≡ true))
      go true e c s = (
        (λ h. ⊎_elim (λ d. let u = c.0 d in (omega arith, u.1)) (λ d. let q : x ≡ y = omega arith in (omega arith, ap f q ∙ e)) (s.0 h)),
        (λ h. s.1 (⊎_elim (λ d. inl (c.1 (d, h.1))) (λ d. inr (omega arith)) (last true e h.1 h.0))),
      )
      go false e c s = (
        (λ h. let u = c.0 h in (omega arith, u.1)),
        (λ h. ⊎_elim (λ d. c.1 (d, h.1)) (λ d. absurd (true≢false (sym d.1))) (last false e h.1 h.0)),
      )

  -- A list of the usual kind that covers the letters that pass.
  pub stretches_unique : (n : ℕ) (is : List Interval) → Canonical n 1 is → ((x : ℕ) → x < n → Covers is x ↔ (f x ≡ true)) → stretches f n ≡ is
  stretches_unique n is a w =
      canonical_unique n 1 (stretches f n) is (omega arith) (stretches_canonical n) a
      (λ x l. let c = stretches_covers n x in ((λ h. (w x l).1 (c.0 h).1), (λ h. c.1 (l, (w x l).0 h))))

  pub stretches_none : (p q : ℕ) → p ≤ q → ((x : ℕ) → p ≤ x → x < q → f x ≡ false) → stretches f q ≡ stretches f p
  unfolding stretches
  stretches_none p zero h w = let e : p ≡ 0 = omega arith in rw e
  stretches_none p (suc q) h w =
      ⊎_elim (λ gt. let e : p ≡ suc q = omega arith in rw e)
      (λ le. rw (w q le (omega arith)) (stretches_none p q le (λ x l m. w x l (omega arith))))
      (lt_or_le q p)

-- A list of the usual kind is told by its letters.
pub stretches_own : (n : ℕ) (is : List Interval) → Canonical n 1 is → stretches (covered is) n ≡ is
stretches_own n is a =
    stretches_unique (covered is) n is a (λ x l. let c = covered_agrees is x in ((λ h. c.1 h), (λ h. c.0 h)))

pub stretches_same : (f g : ℕ → Bool) (n : ℕ) → ((x : ℕ) → x < n → f x ≡ g x) → stretches f n ≡ stretches g n
unfolding stretches
stretches_same f g zero w = refl
stretches_same f g (suc x) w =
    ap₂ (λ (b : Bool) (is : List Interval). cond b (save is x (x + 1)) is) (w x (omega arith)) (stretches_same f g x (λ y l. w y (omega arith)))

ascending_front : (n k lo : ℕ) (is js : List Interval) → Ascending n k lo (is ++ js) → Ascending n k lo is
ascending_front n k lo [] js a = tt
ascending_front n k lo (i ∷ is) js a = (a.0, a.1, a.2, ascending_front n k (i.end + 1) is js a.3)

ascending_last : (n k lo s e : ℕ) (is : List Interval) → lo ≤ s → s + k ≤ e → e ≤ n → Ascending n k lo is → EndsBelow s is
    → Ascending n k lo (is ++ (interval s e ∷ []))
ascending_last n k lo s e [] h l m a b = (h, l, m, tt)
ascending_last n k lo s e (i ∷ is) h l m a b = (a.0, a.1, a.2, ascending_last n k (i.end + 1) s e is (omega arith) l m a.3 b.1)

-- The letters from p up to q pass: the last stretch, which began at s, ends at q now.
pub stretches_grow : (f : ℕ → Bool) (p q s : ℕ) (done : List Interval) → s ≤ p → p < q → EndsBelow s done
    → done ++ nonempty s p ≡ stretches f p → ((x : ℕ) → p ≤ x → x < q → f x ≡ true) → done ++ nonempty s q ≡ stretches f q
stretches_grow f p q s done h l b e w =
    sym (stretches_unique f q (done ++ nonempty s q) shape letters)
  where
    before : Ascending p 1 0 (done ++ nonempty s p)
    before = rw e (stretches_canonical f p)

    shape : Canonical q 1 (done ++ nonempty s q)
    shape =
        rw (nonempty_some s q (omega arith))
        (ascending_last q 1 0 s q done (omega arith) (omega arith) (omega arith)
        (ascending_more p q 1 0 done (omega arith) (ascending_front p 1 0 done (nonempty s p) before)) b)

    letters : (x : ℕ) → x < q → Covers (done ++ nonempty s q) x ↔ (f x ≡ true)
    letters x m =
        let c = append_covers x done (nonempty s q) in
        let c' = append_covers x done (nonempty s p) in
        let d = nonempty_covers x s q in
        let d' = nonempty_covers x s p in
        let t : Covers (done ++ nonempty s p) x ↔ ((x < p) × (f x ≡ true)) = rw e (stretches_covers f p x) in (
          (λ g. ⊎_elim
              (λ lt. (t.0 (c'.1 (⊎_elim (λ u. inl u) (λ u. inr (d'.1 (let v = d.0 u in (v.0, lt)))) (c.0 g)))).1)
              (λ ge. w x ge m)
              (lt_or_le x p)),
          (λ g. c.1 (⊎_elim
              (λ lt. ⊎_elim (λ u. inl u) (λ u. inr (d.1 (let v = d'.0 u in (v.0, m)))) (c'.0 (t.1 (lt, g))))
              (λ ge. inr (d.1 (omega arith, m)))
              (lt_or_le x p))),
        )
