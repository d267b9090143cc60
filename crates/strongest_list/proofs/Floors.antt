-- With a higher floor the list is the front that scores above it.
use Rattle.std.proofs.Common.{◌≡◌, ℕ, zero, suc, ◌+◌, ◌≤◌, Bool, true, false, cond, ltb, List, [], ◌∷◌, ◌++◌, None, Some, ℤ, pos, refl, sym, ap, ap₂, ◌∙◌, subst, arith, ◌⊎◌, inl, inr, ⊎_elim, true≢false, append-nil, append_assoc, ltb-true, lt-ltb}
use lib.Signed.{lt_z}
use Rattle.strongest.proofs.Order.{up, down, parts, is_pos, lt_is}
use Rattle.strongest_list.specs.Stretches.{Asked, Stretch, score, best, as_list, strongest}
use Rattle.strongest_list.proofs.Ranking.{Below, not_beats}
use Rattle.strongest_list.proofs.Choosing.{chosen_once}
use Rattle.strongest_list.proofs.Listing.{none_yet, next}
use Rattle.strongest_list.proofs.Laws.{Each, each_snoc, C, chosen, worthy, candid, by_best, grown, ended, is_candid, is_best, none_left}

-- The same request with another floor.
abbrev pub with_floor : Asked → ℕ → Asked
with_floor A floor = record { sequence = A.sequence; kmer = A.kmer; window_size = A.window_size; threshold = A.threshold; ln = A.ln; f = A.f; regions = A.regions; floor = floor }

-- The front of a list that scores above a floor.
abbrev pub above : (Stretch → ℤ) → ℕ → List Stretch → List Stretch
above score floor [] = []
above score floor (s ∷ ss) = cond (lt_z (pos floor) (score s)) (s ∷ above score floor ss) []

-- pos f < z, in naturals.
above_is : (f : ℕ) (z : ℤ) → lt_z (pos f) z ≡ ltb (f + down z) (up z + 0)
above_is f z = lt_is (pos f) z f 0 (up z) (down z) (is_pos f) (parts z)

above_lower : (f g : ℕ) (z : ℤ) → f ≤ g → lt_z (pos g) z ≡ true → lt_z (pos f) z ≡ true
above_lower f g z h e = let l = ltb-true (g + down z) (up z + 0) (sym (above_is g z) ∙ e) in above_is f z ∙ lt-ltb (f + down z) (up z + 0) (omega arith)

above_up : (score : Stretch → ℤ) (f : ℕ) (s t : Stretch) → Below score s t → lt_z (pos f) (score s) ≡ true → lt_z (pos f) (score t) ≡ true
above_up score f s t b e =
    let l = ltb-true (f + down (score s)) (up (score s) + 0) (sym (above_is f (score s)) ∙ e) in
    let p = b.le in
    above_is f (score t) ∙ lt-ltb (f + down (score t)) (up (score t) + 0) (omega arith)

module _ (A : Asked) (floor : ℕ) (higher : A.floor ≤ floor) where
  abbrev B : Asked
  B = with_floor A floor

  abbrev High : Stretch → Type 0
  High s = lt_z (pos floor) (score A s) ≡ true

  lower : (found : List Stretch) (s : Stretch) → C B found s → C A found s
  lower found s c =
      let p = worthy B found s c in
      let w = p.0 in
      candid A found s (record { some = w.some; short = w.short; within = w.within; inside_regions = w.inside_regions; high = above_lower A.floor floor (score A s) higher w.high }) p.1

  high_of : (found : List Stretch) (s : Stretch) → C B found s → High s
  high_of found s c = (worthy B found s c).0.high

  raised : (found : List Stretch) (s : Stretch) → C A found s → High s → C B found s
  raised found s c h =
      let p = worthy A found s c in
      let w = p.0 in
      candid B found s (record { some = w.some; short = w.short; within = w.within; inside_regions = w.inside_regions; high = h }) p.1

  -- ---- The next entry.
  same_best : (found : List Stretch) (x : Stretch) → best A found ≡ Some x → High x → best B found ≡ Some x
  same_best found x e h =
      chosen_once (score A) (C B found) (best B found) (Some x) (chosen B found)
      (raised found x (is_candid A found x e) h, λ s c. not_beats (score A) s x (is_best A found x s e (lower found s c)))

  none_high : (found : List Stretch) (x : Stretch) → best A found ≡ Some x → (High x → ⊥) → best B found ≡ None
  none_high found x e h = by_best B (best B found ≡ None) found (λ y g. absurd (h (above_up (score A) floor y x (is_best A found x y e (lower found y (is_candid B found y g))) (high_of found y (is_candid B found y g))))) (λ g. g)

  none_either : (found : List Stretch) → best A found ≡ None → best B found ≡ None
  none_either found e = by_best B (best B found ≡ None) found (λ y g. absurd (none_left A found y e (lower found y (is_candid B found y g)))) (λ g. g)

  -- ---- The front.
  above_all : (l : List Stretch) → Each High l → above (score A) floor l ≡ l
  above_all [] h = refl
  above_all (s ∷ l) h = ap₂ (λ (b : Bool) (m : List Stretch). cond b (s ∷ m) []) h.0 (above_all l h.1)

  above_cut : (l : List Stretch) (x : Stretch) (xs : List Stretch) → Each High l → lt_z (pos floor) (score A x) ≡ false → above (score A) floor ((l ++ (x ∷ [])) ++ xs) ≡ l
  above_cut [] x xs h e = ap (λ (b : Bool). cond b (x ∷ above (score A) floor xs) []) e
  above_cut (s ∷ l) x xs h e = ap₂ (λ (b : Bool) (m : List Stretch). cond b (s ∷ m) []) h.0 (above_cut l x xs h.1 e)

  record Going (n : ℕ) : Type 0 where
    same : strongest B n ≡ strongest A n
    high : Each High (strongest A n)

  record Stopped (n : ℕ) : Type 0 where
    none : best B (strongest B n) ≡ None
    cut : (xs : List Stretch) → above (score A) floor (strongest A n ++ xs) ≡ strongest B n

  state : (n : ℕ) → Going n ⊎ Stopped n
  state zero = inl (record { same = none_yet B ∙ sym (none_yet A); high = rw (none_yet A) tt })
  state (suc n) = ⊎_elim (going n) (λ s. inr (stopped n s)) (state n)
    where
      stopped : (n : ℕ) → Stopped n → Stopped (suc n)
      stopped n s =
          record {
            none = ap (best B) (ended B n s.none) ∙ s.none;
            cut = λ xs.
                ap (λ (l : List Stretch). above (score A) floor (l ++ xs)) (next A n)
                ∙ ap (above (score A) floor) (append_assoc (strongest A n) (as_list (best A (strongest A n))) xs)
                ∙ s.cut (as_list (best A (strongest A n)) ++ xs)
                ∙ sym (ended B n s.none);
          }

      going : (n : ℕ) → Going n → Going (suc n) ⊎ Stopped (suc n)
      going n g =
          by_best A (Going (suc n) ⊎ Stopped (suc n)) (strongest A n)
          (λ x e. by n g x e (lt_z (pos floor) (score A x)) refl)
          (λ e.
          let b : best B (strongest B n) ≡ None = ap (best B) g.same ∙ none_either (strongest A n) e in
          let same : strongest B (suc n) ≡ strongest A (suc n) = ended B n b ∙ g.same ∙ sym (ended A n e) in
          inl (record { same = same; high = subst (Each High) (sym (ended A n e)) g.high }))
        where
          by : (n : ℕ) → Going n → (x : Stretch) → best A (strongest A n) ≡ Some x → (t : Bool) → lt_z (pos floor) (score A x) ≡ t → Going (suc n) ⊎ Stopped (suc n)
          by n g x e true p =
              let b : best B (strongest B n) ≡ Some x = ap (best B) g.same ∙ same_best (strongest A n) x e p in
              inl (record {
                same = grown B n x b ∙ ap (λ (l : List Stretch). l ++ (x ∷ [])) g.same ∙ sym (grown A n x e);
                high = subst (Each High) (sym (grown A n x e)) (each_snoc High (strongest A n) x g.high p);
              })
          by n g x e false p =
              let b : best B (strongest B n) ≡ None = ap (best B) g.same ∙ none_high (strongest A n) x e (λ h. true≢false (sym h ∙ p)) in
              inr (record {
                none = ap (best B) (ended B n b) ∙ b;
                cut = λ xs. ap (λ (l : List Stretch). above (score A) floor (l ++ xs)) (grown A n x e) ∙ above_cut (strongest A n) x xs g.high p ∙ sym g.same ∙ sym (ended B n b);
              })

  pub higher_floor : (n : ℕ) → strongest B n ≡ above (score A) floor (strongest A n)
  higher_floor n =
      ⊎_elim
      (λ g. g.same ∙ sym (above_all (strongest A n) g.high))
      (λ s. sym (ap (above (score A) floor) (sym (append-nil (strongest A n))) ∙ s.cut []))
      (state n)
