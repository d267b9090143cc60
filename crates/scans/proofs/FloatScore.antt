-- Tables in range: the float score of L places, in whatever order a scan reads them, is within (L + 1) / 2^33 of their exact score.
use Rattle.std.proofs.Common.{◌≡◌, refl, sym, ap, ◌∙◌, subst, ℕ, suc, ◌+◌, ◌*◌, ◌-◌, ◌≤◌, ◌<◌, mul-le-mul_right, arith, List, [], ◌∷◌, ◌++◌, append-nil, reverse, length, take, drop, length-append, length-take, length-drop, take-append-drop, take_at, ℤ, nat_abs, ◌-ℤ◌, Float}
use mathlib.Core.List.{reverse-append}
use lib.ListN.{length-reverse}
use lib.Seq.{append_snoc}
use lib.Ieee.{binary64}
use Rattle.floats.specs.Arithmetic.{◌⊕◌, ◌⊖◌}
use Rattle.floats.specs.Binary64.{value64, zero64}
use Rattle.floats.proofs.Whole.{Is, is_sub, is_size, value_is}
use Rattle.floats.proofs.Sums.{err_units, after_as, after_start, after_step, after_score}
use Rattle.floats.specs.Terms.Rounded.{Near, pos64, neg64, err, After}
use Rattle.letters.specs.Place.{Place, ambiguous, plain, BelowAt, Below}
use Rattle.scans.specs.Setup.{Setup, ln_at, kmers}
use Rattle.scans.specs.Counts.{raise, cleared}
use Rattle.scans.specs.Scans.{value}
use Rattle.scans.specs.Score.{ln_value, score}
use Rattle.scans.specs.Judged.{sum_over_of, float_score, Close}
use Rattle.scans.proofs.Counting.{count_reverse, below_drop, below_take, below_reverse, Counted, raise_counted, cleared_counted}
use Rattle.scans.proofs.Exact.{added, sums_same}
use Rattle.scans.proofs.Gain.{InRange, gain, loss, added_ranged, gain_snoc, gain_none, score_is}

-- ---- The exact score does not depend on the order.
pub score_reverse : (S : Setup) (q : List Place) → score S (reverse q) ≡ score S q
unfolding score
score_reverse S q = rw (sums_same (ln_value S) q (reverse q) (kmers S) (λ x _. count_reverse x q), length-reverse q)

-- The L newest places, the newest first, and as they stand.
pub newest_first : (q : List Place) (l : ℕ) → l ≤ length q → take l (reverse q) ≡ reverse (drop (length q - l) q)
newest_first q l h =
    let k : ℕ = length q - l in
    ap (λ (z : List Place). take l z) (ap reverse (sym (take-append-drop k q)) ∙ reverse-append (take k q) (drop k q))
    ∙ take_at (reverse (drop k q)) (reverse (take k q)) l (omega (arith, length-reverse (drop k q), length-drop k q))

-- ---- Tables in range.
module _ (S : Setup) (R : InRange S) where
  abbrev t : Float
  t = S.score_threshold

  -- What a place adds is the ln entry that it adds to the places read before.
  pub value_added : (counts : List ℕ) (seen : List Place) (e : Place) → Counted (kmers S) counts seen → value S counts e ≡ added S seen e
  value_added counts seen ambiguous c = refl
  value_added counts seen (plain x) c = ap (λ (z : ℕ). ln_at S z) (omega (arith, c.counted x))

  -- s is the sum over the places seen.
  abbrev Summed : List Place → Float → Type 0
  Summed seen s = After (length seen) s (gain S seen) (length seen * pos64 t)

  -- One place more.
  summed_more : (seen : List Place) (s : Float) (counts : List ℕ) (e : Place) → BelowAt (kmers S) e → length seen < S.window_size → Counted (kmers S) counts seen → Summed seen s
      → Summed (seen ++ e ∷ []) (s ⊕ (value S counts e ⊖ t))
  summed_more seen s counts e b l c a =
      let more : List Place = seen ++ e ∷ [] in
      let longer : length more ≡ suc (length seen) = omega (arith, length-append seen (e ∷ [])) in
      rw (value_added counts seen e c)
      (after_as (after_step a (omega (arith, R.window_small)) (added_ranged S R seen e l) R.t_ranged) (sym longer) (sym (gain_snoc S R seen e b l))
      (omega (arith, ap (λ (z : ℕ). z * pos64 t) longer)))

  summed_all : (seen es : List Place) (s : Float) (counts : List ℕ) → Below (kmers S) es → length seen + length es ≤ S.window_size → Counted (kmers S) counts seen → Summed seen s
      → Summed (seen ++ es) (sum_over_of (value S) t s counts es)
  unfolding sum_over_of
  summed_all seen [] s counts b l c a = rw (append-nil seen) a
  summed_all seen (e ∷ es) s counts b l c a =
      subst (λ (z : List Place). Summed z (sum_over_of (value S) t (s ⊕ (value S counts e ⊖ t)) (raise counts e) es)) (append_snoc seen e es)
      (summed_all (seen ++ e ∷ []) es (s ⊕ (value S counts e ⊖ t)) (raise counts e) b.1 (omega (arith, length-append seen (e ∷ []))) (raise_counted (kmers S) counts seen e b.0 c)
      (summed_more seen s counts e b.0 (omega arith) c a))

  -- In naturals.
  pub float_near : (es : List Place) → Below (kmers S) es → length es ≤ S.window_size → 0 < length es
      → Near binary64 (float_score S es) (gain S es) (loss S (length es)) (err (length es + 1))
  unfolding float_score
  float_near es b l some =
      let a : Summed es (sum_over_of (value S) t zero64 (cleared S) es) =
      summed_all [] es zero64 (cleared S) b (omega arith) (cleared_counted (kmers S)) (after_as after_start refl (sym (gain_none S)) (omega arith)) in
      after_score a (omega (arith, R.window_small)) (R.f_ranged (length es) some l)

  -- In whole numbers, for places in the order read.
  pub float_within : (es : List Place) → Below (kmers S) es → length es ≤ S.window_size → 0 < length es → Close (length es + 1) (float_score S es) (score S es)
  float_within es b l some =
      let x : Float = float_score S es in
      let n = float_near es b l some in
      let z : ℤ = value64 x -ℤ score S es in
      let i : Is z (pos64 x + loss S (length es)) (neg64 x + gain S es) =
      is_sub (value64 x) (score S es) (pos64 x) (neg64 x) (gain S es) (loss S (length es)) (value_is binary64 x) (score_is S R es l some) in
      let s : nat_abs z ≤ err (length es + 1) = is_size z (pos64 x + loss S (length es)) (neg64 x + gain S es) (err (length es + 1)) i (omega (arith, n.upper)) (omega (arith, n.lower)) in
      record { number = n.ok; close = subst (λ (y : ℕ). nat_abs z * 8589934592 ≤ y) (err_units (length es + 1)) (mul-le-mul_right 8589934592 s) }

  -- ---- The two scans over a window q, after L places.
  module _ (q : List Place) (b : Below (kmers S) q) (h : length q ≤ S.window_size) where
    -- Forward from index j: against the exact score of the L places from there.
    pub forward_within : (j L : ℕ) → 0 < L → j + L ≤ length q → Close (L + 1) (float_score S (take L (drop j q))) (score S (take L (drop j q)))
    forward_within j L some l =
        let d : List Place = drop j q in
        let long : length (take L d) ≡ L = omega (arith, length-take L d, length-drop j q) in
        subst (λ (n : ℕ). Close (n + 1) (float_score S (take L d)) (score S (take L d))) long
        (float_within (take L d) (below_take (kmers S) L d (below_drop (kmers S) j q b)) (omega arith) (omega arith))

    -- Backward: against that of the L newest places.
    pub backward_within : (L : ℕ) → 0 < L → L ≤ length q → Close (L + 1) (float_score S (take L (reverse q))) (score S (drop (length q - L) q))
    backward_within L some l =
        let d : List Place = drop (length q - L) q in
        let long : length (reverse d) ≡ L = omega (arith, length-reverse d, length-drop (length q - L) q) in
        let w = float_within (reverse d) (below_reverse (kmers S) d (below_drop (kmers S) (length q - L) q b)) (omega arith) (omega arith) in
        rw (newest_first q L l, ← score_reverse S d) (subst (λ (n : ℕ). Close (n + 1) (float_score S (reverse d)) (score S (reverse d))) long w)
