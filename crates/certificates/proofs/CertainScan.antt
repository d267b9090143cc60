-- Scans by what their scores' comparisons say. The backward scan whose low places are below 0, whose middle neither drops nor passes the place j, and whose older places are neither best nor near ties, has its best at j,
-- and tries it first (`sure_backward`); the forward scan whose last score is the highest and that is not stopped before is best there (`sure_forward`). For any float bits.
use Rattle.std.proofs.Common.{◌≡◌, refl, sym, ap, subst, ℕ, zero, suc, ◌+◌, ◌≤◌, ◌<◌, eq-or-lt_of_le, eq-zero-or-pos, lt_of_not-le, arith, Bool, cond, not, ◌&&◌, ◌⊎◌, inl, inr, ⊎_elim, List, [], ◌∷◌, ◌++◌, length, T, T_not, eqb, Float}
use lib.Dec.{not_T}
use borrow.Author.Tests.{ne_eqb}
use lib.Ieee.{lt, le}
use lib.Ieee.Fits.{and_i, and_l, and_r}
use Rattle.floats.specs.Arithmetic.{◌⊖◌}
use Rattle.floats.specs.Binary64.{zero64, tiny}
use Rattle.scans.specs.Setup.{Setup}
use Rattle.scans.specs.Scans.{Candidate, candidate, BackwardSums, backward_start, is_noted, noted, is_dropped, backward_judged}
use Rattle.scans.specs.Judged.{Best, better, forward_over, Peaks, backward_over}
use Rattle.scans.specs.Terms.Parts.{raised_at, fallen_to}
use Rattle.scans.proofs.Test.{by_test}
use Rattle.search.proofs.QuickScan.{last, Top, Bare, last_snoc, older, fallen_bare}

-- ---- The backward scan over scores x and y, n places, the place at index i being the l-th where i + l = n; the place j is the `size`-th.
pub record Sure (S : Setup) (x y : ℕ → Float) (n j size low_from oldest : ℕ) : Type 0 where
  pub size_is : j + size ≡ n
  pub some : 0 < size
  pub j_before : j < low_from
  pub unstopped : (i l : ℕ) → i + l ≡ n → 0 < l → j ≤ i → T (not (lt (y l) zero64))
  pub low : (i l : ℕ) → i + l ≡ n → 0 < l → low_from ≤ i → T (not (le zero64 (x l)))
  pub steady : (a k i l : ℕ) → a + k ≡ n → i + l ≡ n → j < i → i < a → a < low_from → T (not (lt S.drop_limit (x k ⊖ x l)))
  pub above : (a k : ℕ) → a + k ≡ n → j < a → a < low_from → T (le (x k) (x size))
  pub high : T (le zero64 (x size))
  pub below : (i l : ℕ) → i + l ≡ n → oldest ≤ i → i < j → T (not (le (x size) (x l)))
  pub apart : (i l : ℕ) → i + l ≡ n → oldest ≤ i → i < j → T (not (lt (x size ⊖ x l) tiny))
  pub ends : (oldest ≡ 0) ⊎ ((oldest < j) × ((l : ℕ) → oldest + l ≡ n → T (lt S.drop_limit (x size ⊖ x l))))

-- Its best is at index j, with the score b, and is tried first.
pub record Leads (j : ℕ) (b : Float) (p : Peaks) : Type 0 where
  pub best_is : p.best ≡ b
  pub found_is : p.found ≡ suc j
  pub top : Top p.found p.best p.candidates

-- ---- One place.
pub fallen_is : (a : BackwardSums) (sl : Float) (i : ℕ) → T (not (le a.best sl)) → backward_judged a a.s a.sw sl i ≡ fallen_to a sl
fallen_is a sl i h = by_test (λ (z : BackwardSums). z ≡ fallen_to a sl) (le a.best sl) (raised_at a sl i) (fallen_to a sl) (λ t. absurd (T_not (le a.best sl) h t)) (λ _. refl)

raised_is : (a : BackwardSums) (sl : Float) (i : ℕ) → T (le a.best sl) → backward_judged a a.s a.sw sl i ≡ raised_at a sl i
raised_is a sl i h = by_test (λ (z : BackwardSums). z ≡ raised_at a sl i) (le a.best sl) (raised_at a sl i) (fallen_to a sl) (λ _. refl) (λ t. absurd (T_not (le a.best sl) t h))

-- Whatever is noted is newer than what is left.
noted_passed : (a : BackwardSums) (sl : Float) (i : ℕ) (cs : List Candidate) → (length cs ≡ 0) ⊎ (suc i < (last cs).place) → (length (noted a sl i cs) ≡ 0) ⊎ (i < (last (noted a sl i cs)).place)
noted_passed a sl i cs p =
    by_test (λ (z : List Candidate). (length z ≡ 0) ⊎ (i < (last z).place)) (is_noted a sl) (cs ++ candidate (i + 1) a.best ∷ []) cs
    (λ _. inr (omega (arith, ap (λ (c : Candidate). c.place) (last_snoc cs (candidate (i + 1) a.best))))) (λ _. older i cs p)

passed_top : (i : ℕ) (best : Float) (cs : List Candidate) → (length cs ≡ 0) ⊎ (i < (last cs).place) → Top (i + 1) best cs
passed_top i best cs (inl e) = inl e
passed_top i best cs (inr h) = inr (inl (omega arith))

module _ (S : Setup) (x y : ℕ → Float) where
  goes_on : (i l : ℕ) (a : BackwardSums) (cs : List Candidate) → T (not (lt (y l) zero64)) → T (not (is_dropped S a (x l)))
      → backward_over S x y (suc i) l a cs ≡ backward_over S x y i (l + 1) (backward_judged a a.s a.sw (x l) i) (noted a (x l) i cs)
  unfolding backward_over
  goes_on i l a cs u v =
      let a' : BackwardSums = backward_judged a a.s a.sw (x l) i in
      let cs' : List Candidate = noted a (x l) i cs in
      let rest : Peaks = backward_over S x y i (l + 1) a' cs' in
      let ends : Peaks = record { best = a.best; found = a.found; candidates = cs } in
      let dropped : Peaks = record { best = a'.best; found = a'.found; candidates = cs' } in
      by_test (λ (p : Peaks). p ≡ rest) (lt (y l) zero64) ends (cond (is_dropped S a (x l)) dropped rest) (λ t. absurd (T_not (lt (y l) zero64) u t))
      (λ _. by_test (λ (p : Peaks). p ≡ rest) (is_dropped S a (x l)) dropped rest (λ t. absurd (T_not (is_dropped S a (x l)) v t)) (λ _. refl))

  -- What a drop takes.
  drops : (a : BackwardSums) (sl : Float) (f : ℕ) → a.found ≡ suc f → T (not (le a.best sl)) → T (lt S.drop_limit (a.best ⊖ sl)) → T (is_dropped S a sl)
  drops a sl f e h d =
      let k : T (not (eqb a.found 0)) = subst (λ (b : Bool). T (not b)) (sym (ne_eqb a.found 0 (λ z. omega arith))) tt in
      and_i (not (le a.best sl)) (not (eqb a.found 0) && lt S.drop_limit (a.best ⊖ sl)) h (and_i (not (eqb a.found 0)) (lt S.drop_limit (a.best ⊖ sl)) k d)

  dropped_low : (a : BackwardSums) (sl : Float) → T (is_dropped S a sl) → T (not (le a.best sl))
  dropped_low a sl t = and_l (not (le a.best sl)) (not (eqb a.found 0) && lt S.drop_limit (a.best ⊖ sl)) t

  dropped_rest : (a : BackwardSums) (sl : Float) → T (is_dropped S a sl) → T (not (eqb a.found 0)) × T (lt S.drop_limit (a.best ⊖ sl))
  dropped_rest a sl t =
      let r = and_r (not (le a.best sl)) (not (eqb a.found 0) && lt S.drop_limit (a.best ⊖ sl)) t in
      (and_l (not (eqb a.found 0)) (lt S.drop_limit (a.best ⊖ sl)) r, and_r (not (eqb a.found 0)) (lt S.drop_limit (a.best ⊖ sl)) r)

  module _ (n j size low_from oldest : ℕ) (sure : Sure S x y n j size low_from oldest) where
    -- ---- Older than j: the scan is at its end, or has not yet come to the oldest place.
    abbrev Left : ℕ → Type 0
    Left i = (i ≡ 0) ⊎ (oldest < i)

    reach : (i : ℕ) → Left (suc i) → oldest ≤ i
    reach i (inl e) = absurd (let z : ⊥ = omega arith in z)
    reach i (inr h) = omega arith

    still_left : (i l : ℕ) (a : BackwardSums) → i + l ≡ n → oldest ≤ i → T (not (le a.best (x l))) → a.best ≡ x size → a.found ≡ suc j → T (not (is_dropped S a (x l))) → Left i
    still_left i l a at o low qb qf t = go (eq-or-lt_of_le o) sure.ends
      where
        go : (oldest ≡ i) ⊎ (oldest < i) → (oldest ≡ 0) ⊎ ((oldest < j) × ((l : ℕ) → oldest + l ≡ n → T (lt S.drop_limit (x size ⊖ x l)))) → Left i
        go (inr k) e = inr k
        go (inl k) (inl z) = inl (omega arith)
        go (inl k) (inr d) = absurd (T_not (is_dropped S a (x l)) t (drops a (x l) j qf low (subst (λ (z : Float). T (lt S.drop_limit (z ⊖ x l))) (sym qb) (d.1 l (omega arith)))))

    older_scan : (i l : ℕ) (a : BackwardSums) (cs : List Candidate) → i + l ≡ n + 1 → i ≤ j → Left i → Bare i a cs → a.best ≡ x size → a.found ≡ suc j
        → Leads j (x size) (backward_over S x y i l a cs)
    unfolding backward_over
    older_scan zero l a cs e h o bare qb qf = record { best_is = qb; found_is = qf; top = bare.top }
    older_scan (suc i) l a cs e h o bare qb qf =
        let at : i + l ≡ n = omega arith in
        let k : oldest ≤ i = reach i o in
        let low : T (not (le a.best (x l))) = subst (λ (z : Float). T (not (le z (x l)))) (sym qb) (sure.below i l at k (omega arith)) in
        let far : T (not (lt (a.best ⊖ x l) tiny)) = subst (λ (z : Float). T (not (lt (z ⊖ x l) tiny))) (sym qb) (sure.apart i l at k (omega arith)) in
        let a' : BackwardSums = backward_judged a a.s a.sw (x l) i in
        let is : fallen_to a (x l) ≡ a' = sym (fallen_is a (x l) i low) in
        let cs' : List Candidate = noted a (x l) i cs in
        let bare' : Bare i (fallen_to a (x l)) cs' = fallen_bare i a cs bare a.s a.sw (x l) far in
        let ends : Peaks = record { best = a.best; found = a.found; candidates = cs } in
        let dropped : Peaks = record { best = a'.best; found = a'.found; candidates = cs' } in
        let rest : Peaks = backward_over S x y i (l + 1) a' cs' in
        by_test (Leads j (x size)) (lt (y l) zero64) ends (cond (is_dropped S a (x l)) dropped rest)
        (λ _. record { best_is = qb; found_is = qf; top = bare.top })
        (λ _. by_test (Leads j (x size)) (is_dropped S a (x l)) dropped rest
        (λ _. subst (λ (z : BackwardSums). Leads j (x size) (record { best = z.best; found = z.found; candidates = cs' })) is (record { best_is = qb; found_is = qf; top = bare'.top }))
        (λ t. subst (λ (z : BackwardSums). Leads j (x size) (backward_over S x y i (l + 1) z cs')) is
        (older_scan i (l + 1) (fallen_to a (x l)) cs' (omega arith) (omega arith) (still_left i l a at k low qb qf t) bare' qb qf)))

    -- ---- Down to j, with i entries left: there is no best place yet, or it is one of the middle that was read.
    record Held (i : ℕ) (best : Float) : Type 0 where
      place : ℕ
      nth : ℕ
      place_is : place + nth ≡ n
      read : i ≤ place
      inner : place < low_from
      is : best ≡ x nth

    abbrev Led : ℕ → BackwardSums → Type 0
    Led i a = ((a.found ≡ 0) × (a.best ≡ zero64)) ⊎ Held i a.best

    led_on : (i : ℕ) (a : BackwardSums) (sl : Float) → Led (suc i) a → Led i (fallen_to a sl)
    led_on i a sl (inl p) = inl p
    led_on i a sl (inr h) = inr (record { place = h.place; nth = h.nth; place_is = h.place_is; read = omega (arith, h.read); inner = h.inner; is = h.is })

    not_dropped : (i l : ℕ) (a : BackwardSums) → i + l ≡ n → j < i → Led (suc i) a → T (not (is_dropped S a (x l)))
    not_dropped i l a at k (inl p) = not_T (is_dropped S a (x l)) (λ t. subst (λ (f : ℕ). T (not (eqb f 0))) p.0 (dropped_rest a (x l) t).0)
    not_dropped i l a at k (inr h) =
        not_T (is_dropped S a (x l))
        (λ t. T_not (lt S.drop_limit (x h.nth ⊖ x l)) (sure.steady h.place h.nth i l h.place_is at k (omega (arith, h.read)) h.inner)
        (subst (λ (z : Float). T (lt S.drop_limit (z ⊖ x l))) h.is (dropped_rest a (x l) t).1))

    -- A low place is never best.
    raised_inner : (i l : ℕ) (a : BackwardSums) → i + l ≡ n → 0 < l → Led (suc i) a → T (le a.best (x l)) → i < low_from
    raised_inner i l a at some (inr h) t = omega (arith, h.read, h.inner)
    raised_inner i l a at some (inl p) t = lt_of_not-le (λ k. T_not (le zero64 (x l)) (sure.low i l at some k) (subst (λ (z : Float). T (le z (x l))) p.1 t))

    -- At j.
    high_at : (a : BackwardSums) → Led (suc j) a → T (le a.best (x size))
    high_at a (inl p) = subst (λ (z : Float). T (le z (x size))) (sym p.1) sure.high
    high_at a (inr h) = subst (λ (z : Float). T (le z (x size))) (sym h.is) (sure.above h.place h.nth h.place_is (omega (arith, h.read)) h.inner)

    left_at : Left j
    left_at = go sure.ends (eq-zero-or-pos j)
      where
        go : (oldest ≡ 0) ⊎ ((oldest < j) × ((l : ℕ) → oldest + l ≡ n → T (lt S.drop_limit (x size ⊖ x l)))) → (j ≡ 0) ⊎ (0 < j) → Left j
        go (inr d) e = inr d.0
        go (inl z) (inl e) = inl (omega arith)
        go (inl z) (inr e) = inr (omega arith)

    at_j : (a : BackwardSums) (cs : List Candidate) → (length cs ≡ 0) ⊎ (suc j < (last cs).place) → Led (suc j) a → Leads j (x size) (backward_over S x y (suc j) size a cs)
    at_j a cs p led =
        let up : T (le a.best (x size)) = high_at a led in
        let cs' : List Candidate = noted a (x size) j cs in
        let q = noted_passed a (x size) j cs p in
        let bare : Bare j (raised_at a (x size) j) cs' = record { level = inl (refl, refl); passed = q; top = passed_top j (x size) cs' q } in
        subst (Leads j (x size)) (sym (goes_on j size a cs (sure.unstopped j size sure.size_is sure.some (omega arith)) (not_T (is_dropped S a (x size)) (λ t. T_not (le a.best (x size)) (dropped_low a (x size) t) up))))
        (subst (λ (z : BackwardSums). Leads j (x size) (backward_over S x y j (size + 1) z cs')) (sym (raised_is a (x size) j up))
        (older_scan j (size + 1) (raised_at a (x size) j) cs' (omega (arith, sure.size_is)) (omega arith) left_at bare refl (omega arith)))

    first_scan : (i l : ℕ) (a : BackwardSums) (cs : List Candidate) → i + l ≡ n + 1 → 0 < l → j < i → (length cs ≡ 0) ⊎ (i < (last cs).place) → Led i a → Leads j (x size) (backward_over S x y i l a cs)
    first_scan zero l a cs e some h p led = absurd (let z : ⊥ = omega arith in z)
    first_scan (suc i) l a cs e some h p led =
        let at : i + l ≡ n = omega arith in
        let cs' : List Candidate = noted a (x l) i cs in
        let q = noted_passed a (x l) i cs p in
        ⊎_elim
        (λ (k : j ≡ i).
        let m : size ≡ l = omega (arith, sure.size_is) in
        subst (λ (z : ℕ). Leads j (x size) (backward_over S x y (suc i) z a cs)) m
        (subst (λ (z : ℕ). ((length cs ≡ 0) ⊎ (suc z < (last cs).place)) → Led (suc z) a → Leads j (x size) (backward_over S x y (suc z) size a cs)) k (at_j a cs) p led))
        (λ (k : j < i).
        subst (Leads j (x size)) (sym (goes_on i l a cs (sure.unstopped i l at some (omega arith)) (not_dropped i l a at k led)))
        (by_test (λ (z : BackwardSums). Leads j (x size) (backward_over S x y i (l + 1) z cs')) (le a.best (x l)) (raised_at a (x l) i) (fallen_to a (x l))
        (λ t. first_scan i (l + 1) (raised_at a (x l) i) cs' (omega arith) (omega arith) k q (inr (record { place = i; nth = l; place_is = at; read = omega arith; inner = raised_inner i l a at some led t; is = refl })))
        (λ t. first_scan i (l + 1) (fallen_to a (x l)) cs' (omega arith) (omega arith) k q (led_on i a (x l) led))))
        (eq-or-lt_of_le (let c : j ≤ i = omega arith in c))

    pub sure_backward : Leads j (x size) (backward_over S x y n 1 backward_start [])
    sure_backward = first_scan n 1 backward_start [] refl (omega arith) (omega (arith, sure.size_is, sure.some)) (inl refl) (inl (refl, refl))

-- ---- The forward scan from index j over n scores x, of which m are left and the next is the l-th.
module _ (limit : Float) (x : ℕ → Float) (j n : ℕ) (on : (k : ℕ) → 0 < k → k < n → T (not (lt limit (x k)))) (last_high : (k : ℕ) → 0 < k → k < n → T (le (x k) (x n))) where
  better_low : (b : Best) (l : ℕ) → T (le (x l) (x n)) → T (le b.best (x n)) → T (le (better b (x l) (j + l)).best (x n))
  better_low b l h k = by_test (λ (c : Best). T (le c.best (x n))) (le b.best (x l)) (record { best = x l; found = j + l }) b (λ _. h) (λ _. k)

  better_last : (b : Best) → T (le b.best (x n)) → (better b (x n) (j + n)).found ≡ j + n
  better_last b k = by_test (λ (c : Best). c.found ≡ j + n) (le b.best (x n)) (record { best = x n; found = j + n }) b (λ _. refl) (λ t. absurd (T_not (le b.best (x n)) t k))

  pub sure_forward : (m l : ℕ) (b : Best) → 0 < l → 0 < m → l + m ≡ n + 1 → T (le b.best (x n)) → (forward_over limit x j m l b).found ≡ j + n
  unfolding forward_over
  sure_forward zero l b some more e k = absurd (let z : ⊥ = omega arith in z)
  sure_forward (suc zero) l b some more e k =
      let is : n ≡ l = omega arith in
      let b' : Best = better b (x l) (j + l) in
      let r : b'.found ≡ j + n = subst (λ (z : ℕ). (better b (x z) (j + z)).found ≡ j + n) is (better_last b k) in
      by_test (λ (c : Best). c.found ≡ j + n) (lt limit (x l)) b' b' (λ _. r) (λ _. r)
  sure_forward (suc (suc m)) l b some more e k =
      let b' : Best = better b (x l) (j + l) in
      by_test (λ (c : Best). c.found ≡ j + n) (lt limit (x l)) b' (forward_over limit x j (suc m) (l + 1) b')
      (λ t. absurd (T_not (lt limit (x l)) (on l some (omega arith)) t))
      (λ _. sure_forward (suc m) (l + 1) b' (omega arith) (omega arith) (omega arith) (better_low b l (last_high l some (omega arith)) k))
