-- The best of a set of stretches: there is at most one, a stretch more changes it as the test says, and the definition finds it.
use Rattle.std.proofs.Common.{◌≡◌, ℕ, zero, suc, ◌+◌, ◌-◌, ◌<◌, ◌≤◌, min, Bool, true, false, cond, ltb, ◌&&◌, ◌||◌, Option, None, Some, ℤ, refl, sym, ap, ap₂, ◌∙◌, subst, arith, ◌⊎◌, inl, inr, ⊎_elim, true≢false, eqb, eq-or-lt_of_le}
use lib.Signed.{lt_z, le_z}
use Rattle.strongest_list.specs.Stretches.{Stretch, ending, beats, beats_best, best_ending, best_before}
use Rattle.strongest_list.specs.Terms.Best.{Chosen}
use Rattle.strongest_list.proofs.Ranking.{same_stretch, below, above, not_beats, below_refl, below_trans, below_both}

module _ (score : Stretch → ℤ) where
  -- ---- Uniqueness.
  pub chosen_once : (P : Stretch → Type 0) (o p : Option Stretch) → Chosen score P o → Chosen score P p → o ≡ p
  chosen_once P None None h k = refl
  chosen_once P None (Some y) h k = absurd (h y k.0)
  chosen_once P (Some x) None h k = absurd (k x h.0)
  chosen_once P (Some x) (Some y) h k = ap (λ (s : Stretch). Some s) (below_both score x y (below score x y (k.1 x h.0)) (below score y x (h.1 y k.0)))

  -- ---- The same set, and scores that are the same on it.
  pub chosen_as : (other : Stretch → ℤ) (P Q : Stretch → Type 0) (o : Option Stretch)
      → ((s : Stretch) → P s → Q s) → ((s : Stretch) → Q s → P s) → ((s : Stretch) → P s → other s ≡ score s) → Chosen score P o → Chosen other Q o
  chosen_as other P Q None f g e h = λ s q. h s (g s q)
  chosen_as other P Q (Some x) f g e h = (
    f x h.0,
    λ s q.
        ap₂ (λ (i j : ℤ). lt_z j i || (le_z j i && (ltb x.size s.size || (eqb x.size s.size && ltb s.first x.first)))) (e s (g s q)) (e x h.0)
        ∙ h.1 s (g s q),
  )

  -- ---- Of two sets.
  module _ (P Q R : Stretch → Type 0) (left : (s : Stretch) → P s → R s) (right : (s : Stretch) → Q s → R s) (both : (s : Stretch) → R s → P s ⊎ Q s) where
    pub only_left : (o : Option Stretch) → Chosen score P o → Chosen score Q None → Chosen score R o
    only_left None h k = λ s r. ⊎_elim (λ p. h s p) (λ q. k s q) (both s r)
    only_left (Some x) h k = (left x h.0, λ s r. ⊎_elim (λ p. h.1 s p) (λ q. absurd (k s q)) (both s r))

    pub only_right : (o : Option Stretch) → Chosen score P None → Chosen score Q o → Chosen score R o
    only_right None h k = λ s r. ⊎_elim (λ p. h s p) (λ q. k s q) (both s r)
    only_right (Some x) h k = (right x k.0, λ s r. ⊎_elim (λ p. absurd (h s p)) (λ q. k.1 s q) (both s r))

    pub better_right : (x y : Stretch) → Chosen score P (Some x) → Chosen score Q (Some y) → beats score y x ≡ true → Chosen score R (Some y)
    better_right x y h k e = (
      right y k.0,
      λ s r. ⊎_elim (λ p. not_beats score s y (below_trans score s x y (below score s x (h.1 s p)) (above score y x e))) (λ q. k.1 s q) (both s r),
    )

    pub better_left : (x y : Stretch) → Chosen score P (Some x) → Chosen score Q (Some y) → beats score y x ≡ false → Chosen score R (Some x)
    better_left x y h k e = (
      left x h.0,
      λ s r. ⊎_elim (λ p. h.1 s p) (λ q. not_beats score s x (below_trans score s y x (below score s y (k.1 s q)) (below score y x e))) (both s r),
    )

  -- ---- The definition. A stretch of 1 to w places that is allowed; it ends before place e, or at e and has at most l places.
  module _ (ok : Stretch → Bool) (w : ℕ) where
    pub record Candid (e l : ℕ) (s : Stretch) : Type 0 where
      pub some : 0 < s.size
      pub short : s.size ≤ w
      pub allowed : ok s ≡ true
      pub ends : (s.first + s.size ≤ e) ⊎ ((s.first + s.size ≡ e + 1) × (s.size ≤ l))

    record Only (y s : Stretch) : Type 0 where
      is : s ≡ y
      allowed : ok s ≡ true

    one : (y : Stretch) → ok y ≡ true → Chosen score (Only y) (Some y)
    one y e = (record { is = refl; allowed = e }, λ s o. rw o.is (not_beats score y y (below_refl score y)))

    candid_more : (e l : ℕ) (s : Stretch) → Candid e l s → Candid e (suc l) s
    candid_more e l s c = record { some = c.some; short = c.short; allowed = c.allowed; ends = ⊎_elim (λ h. inl h) (λ h. inr (h.0, omega (arith, h.1))) c.ends }

    candid_one : (e l : ℕ) (s : Stretch) → suc l ≤ w → suc l ≤ e + 1 → Only (ending e (suc l)) s → Candid e (suc l) s
    candid_one e l s h k o =
        let y : Stretch = ending e (suc l) in
        let f : s.first ≡ e + 1 - suc l = ap (λ (z : Stretch). z.first) o.is in
        let g : s.size ≡ suc l = ap (λ (z : Stretch). z.size) o.is in
        record { some = omega arith; short = omega arith; allowed = o.allowed; ends = inr (omega arith, omega arith) }

    candid_less : (e l : ℕ) (s : Stretch) → Candid e (suc l) s → Candid e l s ⊎ Only (ending e (suc l)) s
    candid_less e l s c =
        ⊎_elim
        (λ h. inl (record { some = c.some; short = c.short; allowed = c.allowed; ends = inl h }))
        (λ h.
        ⊎_elim
        (λ q. inr (record { is = same_stretch s (ending e (suc l)) (omega (arith, h.0)) q; allowed = c.allowed }))
        (λ q. inl (record { some = c.some; short = c.short; allowed = c.allowed; ends = inr (h.0, omega arith) }))
        (eq-or-lt_of_le h.1))
        c.ends

    turn : (e l : ℕ) (o : Option Stretch) → suc l ≤ w → suc l ≤ e + 1 → Chosen score (Candid e l) o
        → Chosen score (Candid e (suc l)) (cond (ok (ending e (suc l)) && beats_best score (ending e (suc l)) o) (Some (ending e (suc l))) o)
    turn e l o h k c = go o c (ok y) (λ t. t) refl
      where
        y : Stretch
        y = ending e (suc l)

        go : (o : Option Stretch) → Chosen score (Candid e l) o → (b : Bool) → (b ≡ true → b ≡ true) → ok y ≡ b → Chosen score (Candid e (suc l)) (cond (b && beats_best score y o) (Some y) o)
        go o c false i p =
            only_left (Candid e l) (Only y) (Candid e (suc l)) (candid_more e l) (λ s. candid_one e l s h k) (candid_less e l) o c
            (λ s z. absurd (true≢false (sym (subst (λ (x : Stretch). ok x ≡ true) z.is z.allowed) ∙ p)))
        go None c true i p =
            only_right (Candid e l) (Only y) (Candid e (suc l)) (candid_more e l) (λ s. candid_one e l s h k) (candid_less e l) (Some y) c (one y p)
        go (Some x) c true i p = by (beats score y x) refl
          where
            by : (t : Bool) → beats score y x ≡ t → Chosen score (Candid e (suc l)) (cond t (Some y) (Some x))
            by true q = better_right (Candid e l) (Only y) (Candid e (suc l)) (candid_more e l) (λ s. candid_one e l s h k) (candid_less e l) x y c (one y p) q
            by false q = better_left (Candid e l) (Only y) (Candid e (suc l)) (candid_more e l) (λ s. candid_one e l s h k) (candid_less e l) x y c (one y p) q

    ending_is : (e l : ℕ) (o : Option Stretch) → l ≤ w → l ≤ e + 1 → Chosen score (Candid e 0) o → Chosen score (Candid e l) (best_ending score ok o e l)
    unfolding best_ending
    ending_is e zero o h k c = c
    ending_is e (suc l) o h k c = turn e l (best_ending score ok o e l) h k (ending_is e l o (omega arith) (omega arith) c)

    next : (e : ℕ) (o : Option Stretch) → Chosen score (Candid e (min w (suc e))) o → Chosen score (Candid (suc e) 0) o
    next e o c =
        chosen_as score (Candid e (min w (suc e))) (Candid (suc e) 0) o
        (λ s z.
        record {
          some = z.some;
          short = z.short;
          allowed = z.allowed;
          ends = inl (⊎_elim (λ h. omega arith) (λ h. omega (arith, h.0)) z.ends);
        })
        (λ s z.
        let some = z.some in
        let short = z.short in
        record {
          some = z.some;
          short = z.short;
          allowed = z.allowed;
          ends = ⊎_elim
              (λ h. ⊎_elim (λ q. inr (omega arith, omega arith)) (λ q. inl (omega arith)) (eq-or-lt_of_le h))
              (λ h. absurd (let m = h.1 in let x : ⊥ = omega arith in x))
              z.ends;
        })
        (λ s z. refl) c

    pub definition_is : (e : ℕ) → Chosen score (Candid e 0) (best_before score ok w e)
    unfolding best_before
    definition_is zero = λ s c. absurd (let some = c.some in ⊎_elim (λ h. let z : ⊥ = omega arith in z) (λ h. let m = h.1 in let z : ⊥ = omega arith in z) c.ends)
    definition_is (suc e) = next e (best_ending score ok (best_before score ok w e) e (min w (suc e))) (ending_is e (min w (suc e)) (best_before score ok w e) (omega arith) (omega arith) (definition_is e))
