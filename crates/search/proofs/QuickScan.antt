-- A backward scan that meets no near tie: its first candidate to be tried is the best place. For any float bits. And the whole quick scan, from one rest to the next.
use Rattle.std.proofs.Common.{◌≡◌, refl, sym, ap, ◌∙◌, subst, ℕ, zero, suc, ◌+◌, ◌-◌, ◌≤◌, ◌<◌, arith, Bool, true, false, cond, not, ◌&&◌, ◌||◌, true≢false, List, [], ◌∷◌, ◌++◌, ◌⊎◌, inl, inr, length, get_or, drop, length-append, T, T_not, eqb, ltb, nltb→le, Float}
use lib.Seq.{get_or-append_seam}
use lib.Dec.{not_T}
use borrow.Author.Tests.{le-ltb, ltb-true, ltb-false, eq-eqb, ne_eqb}
use lib.Ieee.{binary64, neg, lt, le}
use lib.Ieee.Fits.{and_l, and_r}
use Rattle.floats.specs.Arithmetic.{◌⊖◌}
use Rattle.floats.specs.Binary64.{zero64, tiny, near_zero}
use Rattle.floats.proofs.Order.{lt_nle, sub_turned}
use Rattle.letters.specs.Place.{Place, ambiguous, Below}
use Rattle.scans.specs.declared.backward.BackwardState.{BackwardState}
use Rattle.scans.specs.Setup.{Setup, f_at, kmers}
use Rattle.scans.specs.Counts.{raise, cleared}
use Rattle.scans.specs.Terms.Counted.{Counted}
use Rattle.scans.specs.Scans.{Candidate, candidate, no_candidate, BackwardSums, backward_start, is_noted, noted, Backward, backward_from, with_best, none, at, dust_forward, try_from, tried}
use Rattle.scans.specs.Terms.Parts.{too_low, Rest, sums_with, raised_at, fallen_to, Fresh, rest_of, rest_over, rest_from, rest_after, Backs, goes_on_of}
use Rattle.search.specs.Terms.Carry.{ScansQuick}
use Rattle.scans.proofs.Test.{by_test}
use Rattle.search.proofs.Noting.{first_not_noted}
use Rattle.scans.proofs.BackwardScan.{rest_at, read_counted, definition_turn, none_counted, backs_start}

-- The last candidate of a list.
abbrev pub last : List Candidate → Candidate
last cs = get_or cs (length cs - 1) no_candidate

-- It is the best place, or newer.
abbrev pub Top : ℕ → Float → List Candidate → Type 0
Top found best cs = (length cs ≡ 0) ⊎ ((found ≤ (last cs).place) ⊎ (last cs ≡ candidate (found - 1) best))

-- With i entries left to read: the last score is the best's, which was read last, or no fall from it is noted. The last candidate is newer than what is left.
pub record Bare (i : ℕ) (a : BackwardSums) (cs : List Candidate) : Type 0 where
  pub level : ((a.previous ≡ a.best) × (a.found ≡ i + 1)) ⊎ ((sl : Float) → T (not (is_noted a sl)))
  pub passed : (length cs ≡ 0) ⊎ (i < (last cs).place)
  pub top : Top a.found a.best cs

pub last_snoc : (cs : List Candidate) (c : Candidate) → last (cs ++ c ∷ []) ≡ c
last_snoc cs c =
    let n : length (cs ++ c ∷ []) - 1 ≡ length cs = omega (arith, length-append cs (c ∷ [])) in
    ap (λ (k : ℕ). get_or (cs ++ c ∷ []) k no_candidate) n ∙ get_or-append_seam cs c [] no_candidate

-- A score that is no near tie is not noted as a peak later.
apart_unnoted : (a : BackwardSums) (s sw sl : Float) → T (not (lt (a.best ⊖ sl) tiny)) → (x : Float) → T (not (is_noted (record { s = s; sw = sw; previous = sl; best = a.best; found = a.found }) x))
apart_unnoted a s sw sl h x =
    let d : Float = sl ⊖ a.best in
    not_T (lt x sl && (lt zero64 sl && near_zero d))
    (λ t. T_not (lt (a.best ⊖ sl) tiny) h
    (sub_turned binary64 sl a.best tiny (and_r (lt d tiny) (lt (neg tiny) d) (and_r (lt zero64 sl) (near_zero d) (and_r (lt x sl) (lt zero64 sl && near_zero d) t)))))

unnoted : (a : BackwardSums) (i : ℕ) (sl : Float) → T (le a.best sl) → ((a.previous ≡ a.best) × (a.found ≡ i + 1)) ⊎ ((x : Float) → T (not (is_noted a x))) → T (is_noted a sl) → ⊥
unnoted a i sl h (inl p) t = lt_nle sl a.best (subst (λ (z : Float). T (lt sl z)) p.0 (and_l (lt sl a.previous) (lt zero64 a.previous && near_zero (a.previous ⊖ a.best)) t)) h
unnoted a i sl h (inr f) t = T_not (is_noted a sl) (f sl) t

module _ (i : ℕ) (cs : List Candidate) where
  pub older : (length cs ≡ 0) ⊎ (suc i < (last cs).place) → (length cs ≡ 0) ⊎ (i < (last cs).place)
  older (inl e) = inl e
  older (inr h) = inr (omega arith)

  newer : (best : Float) → (length cs ≡ 0) ⊎ (suc i < (last cs).place) → Top (i + 1) best cs
  newer best (inl e) = inl e
  newer best (inr h) = inr (inl (omega arith))

module _ (i : ℕ) (a : BackwardSums) (cs : List Candidate) (bare : Bare (suc i) a cs) (s sw sl : Float) where
  -- The score is the new best: nothing is noted.
  raised_bare : T (le a.best sl) → Bare i (record { s = s; sw = sw; previous = sl; best = sl; found = i + 1 }) (noted a sl i cs)
  raised_bare h =
      by_test (λ (z : List Candidate). Bare i (record { s = s; sw = sw; previous = sl; best = sl; found = i + 1 }) z) (is_noted a sl) (cs ++ candidate (i + 1) a.best ∷ []) cs
      (λ t. absurd (unnoted a (suc i) sl h bare.level t))
      (λ _. record { level = inl (refl, refl); passed = older i cs bare.passed; top = newer i cs sl bare.passed })

  -- The score falls: what is noted is the best place.
  noted_top : T (is_noted a sl) → ((a.previous ≡ a.best) × (a.found ≡ suc i + 1)) ⊎ ((x : Float) → T (not (is_noted a x))) → Top a.found a.best (cs ++ candidate (i + 1) a.best ∷ [])
  noted_top t (inl p) =
      let e : i + 1 ≡ a.found - 1 = omega (arith, p.1) in
      inr (inr (last_snoc cs (candidate (i + 1) a.best) ∙ ap (λ (k : ℕ). candidate k a.best) e))
  noted_top t (inr f) = absurd (T_not (is_noted a sl) (f sl) t)

  pub fallen_bare : T (not (lt (a.best ⊖ sl) tiny)) → Bare i (record { s = s; sw = sw; previous = sl; best = a.best; found = a.found }) (noted a sl i cs)
  fallen_bare h =
      let apart = apart_unnoted a s sw sl h in
      let place : (last (cs ++ candidate (i + 1) a.best ∷ [])).place ≡ i + 1 = ap (λ (c : Candidate). c.place) (last_snoc cs (candidate (i + 1) a.best)) in
      by_test (λ (z : List Candidate). Bare i (record { s = s; sw = sw; previous = sl; best = a.best; found = a.found }) z) (is_noted a sl) (cs ++ candidate (i + 1) a.best ∷ []) cs
      (λ t. record { level = inr apart; passed = inr (omega arith); top = noted_top t bare.level })
      (λ _. record { level = inr apart; passed = older i cs bare.passed; top = bare.top })

-- ---- The quick scan and the definition's.
pub record Agrees (r : Rest) (b : Backward) : Type 0 where
  pub best_same : b.best ≡ r.sums.best
  pub found_same : b.found ≡ r.sums.found
  top : Top b.found b.best b.candidates

module _ (S : Setup) (window_counts : List ℕ) (q : List Place) (window_counted : Counted (kmers S) window_counts q) (below : Below (kmers S) q) where
  module _ (m : ℕ) (l : m < length q) (a : BackwardSums) (counts : List ℕ) (c : Counted (kmers S) counts (drop (suc m) q)) (cs : List Candidate) (bare : Bare (suc m) a cs) (higher later : Rest) where
    abbrev e : Place
    e = get_or q m ambiguous

    abbrev raised : List ℕ
    raised = raise counts e

    abbrev b : BackwardSums
    b = sums_with S window_counts raised e a

    abbrev fl : Float
    fl = f_at S (length q - m)

    abbrev sl : Float
    sl = b.s ⊖ fl

    abbrev scan_from : BackwardSums → Backward
    scan_from x = backward_from S q m (length q + 1 - m) x raised (noted b sl m cs)

    abbrev rest : Bool → Bool → Bool → Bool → Rest
    rest t₁ t₂ p d =
        cond t₁ (record { sums = b; low = m; paused = false; done = true; counts = raised })
        (cond t₂ higher (cond (p || d) (record { sums = fallen_to b sl; low = m; paused = p; done = d; counts = raised }) later))

    cases : (t₁ t₂ p d : Bool) → le a.best sl ≡ t₂ → lt (a.best ⊖ sl) tiny ≡ p
        → (Bare m (raised_at b sl m) (noted b sl m cs) → higher.paused ≡ false → Agrees higher (scan_from (raised_at b sl m)))
        → (Bare m (fallen_to b sl) (noted b sl m cs) → later.paused ≡ false → Agrees later (scan_from (fallen_to b sl))) → (rest t₁ t₂ p d).paused ≡ false
        → Agrees (rest t₁ t₂ p d)
        (cond t₁ (record { best = a.best; found = a.found; counts = raised; candidates = cs })
        (cond (not t₂ && d)
        (record { best = (cond t₂ (raised_at b sl m) (fallen_to b sl)).best; found = (cond t₂ (raised_at b sl m) (fallen_to b sl)).found; counts = raised; candidates = noted b sl m cs })
        (scan_from (cond t₂ (raised_at b sl m) (fallen_to b sl)))))
    cases true t₂ p d h n up down u = record { best_same = refl; found_same = refl; top = bare.top }
    cases false true p d h n up down u = up (raised_bare m a cs bare b.s b.sw sl (subst T (sym h) tt)) u
    cases false false true d h n up down u = absurd (true≢false u)
    cases false false false true h n up down u =
        record { best_same = refl; found_same = refl; top = (fallen_bare m a cs bare b.s b.sw sl (subst (λ (z : Bool). T (not z)) (sym n) tt)).top }
    cases false false false false h n up down u = down (fallen_bare m a cs bare b.s b.sw sl (subst (λ (z : Bool). T (not z)) (sym n) tt)) u

  quick_agrees : (i : ℕ) → i ≤ length q → (a : BackwardSums) (counts : List ℕ) → Counted (kmers S) counts (drop i q) → (cs : List Candidate) → Bare i a cs
      → (rest_from S window_counts true q i a counts).paused ≡ false → Agrees (rest_from S window_counts true q i a counts) (backward_from S q i (length q + 1 - i) a counts cs)
  unfolding rest_over backward_from
  quick_agrees zero l a counts c cs bare h = record { best_same = refl; found_same = refl; top = bare.top }
  quick_agrees (suc m) l a counts c cs bare h =
      let n : m < length q = omega arith in
      let z : m + 0 ≡ m = omega arith in
      let c' = read_counted (kmers S) q m counts below n c in
      let x : BackwardSums = b m n a counts c cs bare (rest_at a 0 counts) (rest_at a 0 counts) in
      let y : Float = sl m n a counts c cs bare (rest_at a 0 counts) (rest_at a 0 counts) in
      let raised' : List ℕ = raise counts (get_or q m ambiguous) in
      subst (λ (o : Backward). Agrees (rest_from S window_counts true q (suc m) a counts) o) (sym (definition_turn S window_counts q window_counted below m n a counts c cs))
      (rw z
      (cases m n a counts c cs bare (rest_from S window_counts true q m (raised_at x y m) raised') (rest_from S window_counts true q m (fallen_to x y) raised') (lt (x.sw ⊖ f_at S (length q - m)) zero64) (le a.best y)
      (lt (a.best ⊖ y) tiny) (too_low S.drop_limit x y) refl refl (λ g u. quick_agrees m (omega arith) (raised_at x y m) raised' c' (noted x y m cs) g u)
      (λ g u. quick_agrees m (omega arith) (fallen_to x y) raised' c' (noted x y m cs) g u) (rw z at h)))

  -- A scan from the newest entry on, and a list in which the last candidate is the best place.
  pub quick_backward : (rest_from S window_counts true q (length q) backward_start (cleared S)).paused ≡ false
      → Agrees (rest_from S window_counts true q (length q) backward_start (cleared S)) (backward_from S q (length q) 1 backward_start (cleared S) [])
  quick_backward h =
      let one : length q + 1 - length q ≡ 1 = omega arith in
      subst (λ (l : ℕ). Agrees (rest_from S window_counts true q (length q) backward_start (cleared S)) (backward_from S q (length q) l backward_start (cleared S) [])) one
      (quick_agrees (length q) (omega arith) backward_start (cleared S) (none_counted (kmers S) q (cleared S) refl) []
      (record { level = inr (λ x. subst (λ (t : Bool). T (not t)) (sym (first_not_noted x)) tt); passed = inl refl; top = inl refl }) h)

neither : (a b : Bool) → T (not (a || b)) → T (not a) × T (not b)
neither false false h = (tt, tt)
neither false true h = absurd h
neither true b h = absurd h

some : (n : ℕ) → T (not (eqb n 0)) → 0 < n
some zero h = absurd h
some (suc n) h = omega arith

module _ (best : Float) (found : ℕ) (cs : List Candidate) where
  abbrev all : List Candidate
  all = with_best best found cs

  abbrev Ends : List Candidate → Type 0
  Ends l = (0 < length l) × (last l ≡ candidate (found - 1) best)

  kept_ends : Top found best cs → T (not (eqb (length cs) 0 || ltb found ((last cs).place + 1))) → Ends cs
  kept_ends t n =
      let p = neither (eqb (length cs) 0) (ltb found ((last cs).place + 1)) n in
      go (some (length cs) p.0) (nltb→le found ((last cs).place + 1) p.1) t
    where
      go : 0 < length cs → (last cs).place + 1 ≤ found → Top found best cs → Ends cs
      go l k (inl e) = absurd (let z : ⊥ = omega arith in z)
      go l k (inr (inl h)) = absurd (let z : ⊥ = omega arith in z)
      go l k (inr (inr e)) = (l, e)

  with_best_ends : Top found best cs → Ends all
  with_best_ends t =
      by_test Ends (eqb (length cs) 0 || ltb found ((last cs).place + 1)) (cs ++ candidate (found - 1) best ∷ []) cs
      (λ _. (omega (arith, length-append cs (candidate (found - 1) best ∷ [])), last_snoc cs (candidate (found - 1) best))) (kept_ends t)

first_tried : (S : Setup) (q : List Place) (cs : List Candidate) (n j : ℕ) (m : Float) (counts : List ℕ) → get_or cs n no_candidate ≡ candidate j m → (dust_forward S q j m).sums.found ≡ length q
    → try_from S q cs (suc n) 0 counts ≡ record { find = at j; counts = (dust_forward S q j m).counts }
unfolding try_from
first_tried S q cs n j m counts e h =
    let z : ltb (j + 1) 0 ≡ false = le-ltb (j + 1) 0 (omega arith) in
    let y : eqb (dust_forward S q j m).sums.found (length q) ≡ true = eq-eqb (dust_forward S q j m).sums.found (length q) h in
    rw (e, z, y)

module _ (S : Setup) (q : List Place) (b : Backward) where
  -- The best place, at index j, is tried first.
  pub top_tried : Top b.found b.best b.candidates → (j : ℕ) → b.found ≡ suc j → (dust_forward S q j b.best).sums.found ≡ length q
      → tried S q b ≡ record { find = at j; counts = (dust_forward S q j b.best).counts }
  unfolding tried
  top_tried top j f h =
      let cs : List Candidate = with_best b.best b.found b.candidates in
      let z : eqb b.found 0 ≡ false = ne_eqb b.found 0 (λ k. omega arith) in
      let p : b.found - 1 ≡ j = omega arith in
      let ends = with_best_ends b.best b.found b.candidates top in
      let long : length cs ≡ suc (length cs - 1) = omega (arith, ends.0) in
      ap (λ (t : Bool). cond t (record { find = none; counts = b.counts }) (try_from S q cs (length cs) 0 b.counts)) z
      ∙ ap (λ (n : ℕ). try_from S q cs n 0 b.counts) long
      ∙ first_tried S q cs (length cs - 1) j b.best b.counts (ends.1 ∙ ap (λ (k : ℕ). candidate k b.best) p) h

  pub best_tried : (r : Rest) → Agrees r b → (j : ℕ) → r.sums.found ≡ suc j → (dust_forward S q j r.sums.best).sums.found ≡ length q
      → tried S q b ≡ record { find = at j; counts = (dust_forward S q j r.sums.best).counts }
  best_tried r g j e h =
      top_tried g.top j (g.found_same ∙ e) (ap (λ (x : Float). (dust_forward S q j x).sums.found) g.best_same ∙ h)
      ∙ ap (λ (x : Float). record { find = at j; counts = (dust_forward S q j x).counts }) g.best_same

-- ---- The whole quick scan, from one rest to the next.
pub record Going (S : Setup) (window_counts : List ℕ) (q : List Place) (counts₀ : List ℕ) (a : BackwardState) (counts : List ℕ) : Type 0 where
  pub same : length counts ≡ length counts₀
  pub here : Backs (kmers S) q (rest_of a counts)
  pub rest : rest_from S window_counts true q (length q) backward_start (cleared S) ≡ rest_after S window_counts true q (rest_of a counts)

module _ (S : Setup) (window_counts : List ℕ) (q : List Place) (counts₀ : List ℕ) where
  pub going_start : (len : ℕ) (a : BackwardState) → length q ≡ len → Fresh len a → counts₀ ≡ cleared S → Going S window_counts q counts₀ a counts₀
  going_start len a l fresh clear =
      let low : a.low ≡ length q = fresh.low_is ∙ sym l in
      record { same = refl; here = backs_start q len (kmers S) a counts₀ l fresh clear; rest = rw (fresh.going.0, fresh.going.1, low, fresh.sums_are, clear) }

  module _ (a : BackwardState) (counts : List ℕ) (c : Going S window_counts q counts₀ a counts) where
    on : goes_on_of a ≡ true → (a.paused ≡ false) × (a.done ≡ false) × (0 < a.low)
    on t = go a.paused refl a.done refl t
      where
        go : (p : Bool) → a.paused ≡ p → (d : Bool) → a.done ≡ d → not p && (not d && ltb 0 a.low) ≡ true → (a.paused ≡ false) × (a.done ≡ false) × (0 < a.low)
        go true p d e u = absurd (true≢false (sym u))
        go false p true e u = absurd (true≢false (sym u))
        go false p false e u = (p, e, ltb-true 0 a.low u)

    pub going_end : goes_on_of a ≡ false → Counted (kmers S) window_counts q → ScansQuick S q (rest_of a counts)
    unfolding rest_over
    going_end t counted = record { window_counts = window_counts; window_counted = counted; scanned = sym (c.rest ∙ go a.paused refl a.done refl t); here = c.here }
      where
        go : (p : Bool) → a.paused ≡ p → (d : Bool) → a.done ≡ d → not p && (not d && ltb 0 a.low) ≡ false → rest_after S window_counts true q (rest_of a counts) ≡ rest_of a counts
        go true p d e u = rw p
        go false p true e u = rw (p, e)
        go false p false e u =
            let z : a.low ≡ 0 = let n : a.low ≤ 0 = ltb-false 0 a.low u in omega arith in
            rw (p, e, z)
