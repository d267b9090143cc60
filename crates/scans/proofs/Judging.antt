-- For any float bits each scan is a function of its scores: the forward scan of those of the places from its index on, the backward scan of those of the window read from its newest end.
use Rattle.std.proofs.Common.{◌≡◌, refl, sym, ap, ap₂, ◌∙◌, subst, ℕ, zero, suc, ◌+◌, ◌≤◌, ◌<◌, arith, false, cond, List, [], ◌∷◌, ◌++◌, reverse, length, get_or, take, drop, length-append, take-suc, Float}
use mathlib.Core.List.{reverse-append}
use lib.Seq.{append_snoc, take-append-add, take-length}
use lib.Ieee.{inf, le, lt}
use Rattle.floats.specs.Arithmetic.{◌⊕◌, ◌⊖◌}
use Rattle.floats.specs.Binary64.{zero64, slack}
use Rattle.letters.specs.Place.{Place, ambiguous}
use Rattle.scans.specs.Setup.{Setup, f_at}
use Rattle.scans.specs.Counts.{raise, cleared}
use Rattle.scans.specs.Scans.{value, second_value, ForwardSums, forward_start, forward_judged, Forward, forward_from, dust_forward, Candidate, BackwardSums, backward_start, noted, is_dropped, backward_judged, Backward, backward_from}
use Rattle.scans.specs.Judged.{sum_over_of, float_score, second_score, Best, best_held, better, forward_over, Peaks, peaks_of, backward_over}
use Rattle.scans.specs.Terms.Parts.{whole_forward}
use Rattle.scans.proofs.Test.{by_test, by_test_both}

-- ---- The sum s and the counts after the places seen: what they come to with any places more, the whole comes to from the start.
record Read (S : Setup) (v : List ℕ → Place → Float) (seen : List Place) (s : Float) (counts : List ℕ) : Type 0 where
  on : (es : List Place) → sum_over_of v S.score_threshold zero64 (cleared S) (seen ++ es) ≡ sum_over_of v S.score_threshold s counts es

module _ (S : Setup) (v : List ℕ → Place → Float) where
  read_none : Read S v [] zero64 (cleared S)
  read_none = record { on = λ es. refl }

  module _ (seen : List Place) (s : Float) (counts : List ℕ) (e : Place) (r : Read S v seen s counts) where
    -- One place more.
    read_more : Read S v (seen ++ e ∷ []) (s ⊕ (v counts e ⊖ S.score_threshold)) (raise counts e)
    unfolding sum_over_of
    read_more = record { on = λ es. ap (λ (l : List Place). sum_over_of v S.score_threshold zero64 (cleared S) l) (append_snoc seen e es) ∙ r.on (e ∷ es) }

    -- The l-th score is that of the first l of all places.
    read_score : (l : ℕ) (es all : List Place) → l ≡ length seen + 1 → seen ++ e ∷ es ≡ all
        → s ⊕ (v counts e ⊖ S.score_threshold) ⊖ f_at S l ≡ sum_over_of v S.score_threshold zero64 (cleared S) (take l all) ⊖ f_at S (length (take l all))
    unfolding sum_over_of
    read_score l es all ql qa =
        let cut : take l all ≡ seen ++ e ∷ [] = ap₂ (λ (n : ℕ) (z : List Place). take n z) ql (sym qa) ∙ take-append-add seen (e ∷ es) 1 in
        let long : l ≡ length (take l all) = omega (arith, ap length cut, length-append seen (e ∷ [])) in
        ap₂ (λ (x : Float) (n : ℕ). x ⊖ f_at S n) (sym (ap (λ (z : List Place). sum_over_of v S.score_threshold zero64 (cleared S) z) cut ∙ r.on (e ∷ []))) long

-- ---- The forward scan.
module _ (S : Setup) (limit : Float) (j : ℕ) (all : List Place) where
  abbrev x : ℕ → Float
  x L = float_score S (take L all)

  forward_from_lem : (seen es : List Place) (l i : ℕ) (a : ForwardSums) (counts : List ℕ) → l ≡ length seen + 1 → i + 1 ≡ j + l → seen ++ es ≡ all → Read S (value S) seen a.s counts
      → best_held (forward_from S limit es l i a counts).sums ≡ forward_over limit x j (length es) l (best_held a)
  unfolding forward_from forward_over float_score
  forward_from_lem seen [] l i a counts ql qi qa r = refl
  forward_from_lem seen (e ∷ es) l i a counts ql qi qa r =
      let s : Float = a.s ⊕ (value S counts e ⊖ S.score_threshold) in
      let sl : Float = s ⊖ f_at S l in
      let a' : ForwardSums = forward_judged a s sl i in
      let counts' : List ℕ = raise counts e in
      let later : Forward = forward_from S limit es (l + 1) (i + 1) a' counts' in
      let over : Best → Best = forward_over limit x j (length es) (l + 1) in
      let longer = length-append seen (e ∷ []) in
      let r' : Read S (value S) (seen ++ e ∷ []) a'.s counts' =
      by_test (λ (b : ForwardSums). Read S (value S) (seen ++ e ∷ []) b.s counts') (le a.best sl) (record { s = s; best = sl; found = i + 1 }) (record { s = s; best = a.best; found = a.found })
      (λ _. read_more S (value S) seen a.s counts e r) (λ _. read_more S (value S) seen a.s counts e r) in
      let judged : best_held a' ≡ better (best_held a) sl (j + l) =
      by_test_both (λ (b : ForwardSums) (c : Best). best_held b ≡ c) (le a.best sl) (record { s = s; best = sl; found = i + 1 }) (record { s = s; best = a.best; found = a.found })
      (record { best = sl; found = j + l }) (best_held a)
      (λ _. ap (λ (n : ℕ). record { best = sl; found = n }) qi) (λ _. refl) in
      let same : best_held later.sums ≡ over (best_held a') = forward_from_lem (seen ++ e ∷ []) es (l + 1) (i + 1) a' counts' (omega arith) (omega arith) (append_snoc seen e es ∙ qa) r' in
      subst (λ (z : Float). best_held (cond (lt limit sl) (record { sums = a'; counts = counts' }) later).sums ≡ cond (lt limit z) (better (best_held a) z (j + l)) (over (better (best_held a) z (j + l))))
      (read_score S (value S) seen a.s counts e r l es all ql qa)
      (by_test_both (λ (f : Forward) (c : Best). best_held f.sums ≡ c) (lt limit sl) (record { sums = a'; counts = counts' }) later (better (best_held a) sl (j + l)) (over (better (best_held a) sl (j + l)))
      (λ _. judged) (λ _. same ∙ ap over judged))

pub forward_judges : (S : Setup) (q : List Place) (j : ℕ) (m : Float)
    → best_held (dust_forward S q j m).sums ≡ forward_over (m ⊕ slack) (λ (L : ℕ). float_score S (take L (drop j q))) j (length (drop j q)) 1 (best_held forward_start)
unfolding dust_forward
forward_judges S q j m = forward_from_lem S (m ⊕ slack) j (drop j q) [] (drop j q) 1 j forward_start (cleared S) refl refl refl (read_none S (value S))

-- The one that is never stopped.
pub whole_judges : (S : Setup) (es : List Place) → best_held (whole_forward S es).sums ≡ forward_over (inf false) (λ (L : ℕ). float_score S (take L es)) 0 (length es) 1 (best_held forward_start)
whole_judges S es = forward_from_lem S (inf false) 0 es [] es 1 0 forward_start (cleared S) refl refl refl (read_none S (value S))

-- ---- The backward scan.
module _ (S : Setup) (q : List Place) where
  abbrev second : List ℕ → Place → Float
  second counts e = second_value S q (raise counts e) e

  abbrev score₁ : ℕ → Float
  score₁ L = float_score S (take L (reverse q))

  abbrev score₂ : ℕ → Float
  score₂ L = second_score S q (take L (reverse q))

  -- A state without its sums.
  abbrev bare : BackwardSums → BackwardSums
  bare a = record { s = zero64; sw = zero64; previous = a.previous; best = a.best; found = a.found }

  next_first : (i : ℕ) → i < length q → reverse (take (suc i) q) ≡ get_or q i ambiguous ∷ reverse (take i q)
  next_first i h = ap reverse (take-suc q i ambiguous h) ∙ reverse-append (take i q) (get_or q i ambiguous ∷ [])

  backward_from_lem : (seen : List Place) (i l : ℕ) (a : BackwardSums) (counts : List ℕ) (cs : List Candidate) → i ≤ length q → l ≡ length seen + 1 → seen ++ reverse (take i q) ≡ reverse q
      → Read S (value S) seen a.s counts → Read S second seen a.sw counts
      → peaks_of (backward_from S q i l a counts cs) ≡ backward_over S score₁ score₂ i l (bare a) cs
  unfolding backward_from backward_over float_score second_score
  backward_from_lem seen zero l a counts cs hi ql qa r₁ r₂ = refl
  backward_from_lem seen (suc i) l a counts cs hi ql qa r₁ r₂ =
      let e : Place = get_or q i ambiguous in
      let s : Float = a.s ⊕ (value S counts e ⊖ S.score_threshold) in
      let sw : Float = a.sw ⊕ (second counts e ⊖ S.score_threshold) in
      let sl : Float = s ⊖ f_at S l in
      let low : Float = sw ⊖ f_at S l in
      let counts' : List ℕ = raise counts e in
      let best : BackwardSums = record { s = s; sw = sw; previous = sl; best = sl; found = i + 1 } in
      let worse : BackwardSums = record { s = s; sw = sw; previous = sl; best = a.best; found = a.found } in
      let a' : BackwardSums = backward_judged a s sw sl i in
      let cs' : List Candidate = noted a sl i cs in
      let later : Backward = backward_from S q i (l + 1) a' counts' cs' in
      let over : BackwardSums → List Candidate → Peaks = backward_over S score₁ score₂ i (l + 1) in
      let qe : seen ++ e ∷ reverse (take i q) ≡ reverse q = ap (λ (z : List Place). seen ++ z) (sym (next_first i hi)) ∙ qa in
      let longer = length-append seen (e ∷ []) in
      let r₁' : Read S (value S) (seen ++ e ∷ []) a'.s counts' =
      by_test (λ (b : BackwardSums). Read S (value S) (seen ++ e ∷ []) b.s counts') (le a.best sl) best worse
      (λ _. read_more S (value S) seen a.s counts e r₁) (λ _. read_more S (value S) seen a.s counts e r₁) in
      let r₂' : Read S second (seen ++ e ∷ []) a'.sw counts' =
      by_test (λ (b : BackwardSums). Read S second (seen ++ e ∷ []) b.sw counts') (le a.best sl) best worse
      (λ _. read_more S second seen a.sw counts e r₂) (λ _. read_more S second seen a.sw counts e r₂) in
      let judged : bare a' ≡ backward_judged (bare a) zero64 zero64 sl i =
      by_test_both (λ (b c : BackwardSums). bare b ≡ c) (le a.best sl) best worse (bare best) (bare worse) (λ _. refl) (λ _. refl) in
      let same : peaks_of later ≡ over (bare a') cs' =
      backward_from_lem (seen ++ e ∷ []) i (l + 1) a' counts' cs' (omega arith) (omega arith) (append_snoc seen e (reverse (take i q)) ∙ qe) r₁' r₂' in
      let next : Float → Float → Peaks = λ (x y : Float).
      let b : BackwardSums = backward_judged (bare a) zero64 zero64 x i in
      cond (lt y zero64) (record { best = a.best; found = a.found; candidates = cs })
      (cond (is_dropped S a x) (record { best = b.best; found = b.found; candidates = noted a x i cs }) (over b (noted a x i cs))) in
      let ends : Backward = record { best = a.best; found = a.found; counts = counts'; candidates = cs } in
      let dropped : Backward = record { best = a'.best; found = a'.found; counts = counts'; candidates = cs' } in
      let b : BackwardSums = backward_judged (bare a) zero64 zero64 sl i in
      let dropped' : Peaks = record { best = b.best; found = b.found; candidates = cs' } in
      let all : peaks_of (cond (lt low zero64) ends (cond (is_dropped S a sl) dropped later)) ≡ next sl low =
      by_test_both (λ (f : Backward) (p : Peaks). peaks_of f ≡ p) (lt low zero64) ends (cond (is_dropped S a sl) dropped later) (peaks_of ends) (cond (is_dropped S a sl) dropped' (over b cs'))
      (λ _. refl)
      (λ _. by_test_both (λ (f : Backward) (p : Peaks). peaks_of f ≡ p) (is_dropped S a sl) dropped later dropped' (over b cs')
      (λ _. ap (λ (c : BackwardSums). record { best = c.best; found = c.found; candidates = cs' }) judged)
      (λ _. same ∙ ap (λ (c : BackwardSums). over c cs') judged)) in
      all ∙ ap₂ next (read_score S (value S) seen a.s counts e r₁ l (reverse (take i q)) (reverse q) ql qe) (read_score S second seen a.sw counts e r₂ l (reverse (take i q)) (reverse q) ql qe)

pub backward_judges : (S : Setup) (q : List Place)
    → peaks_of (backward_from S q (length q) 1 backward_start (cleared S) []) ≡ backward_over S (λ (L : ℕ). float_score S (take L (reverse q))) (λ (L : ℕ). second_score S q (take L (reverse q))) (length q) 1 backward_start []
backward_judges S q =
    backward_from_lem S q [] (length q) 1 backward_start (cleared S) [] (omega arith) refl (ap reverse (take-length q)) (read_none S (value S)) (read_none S (second S q))
