-- Tables in range. The backward scan's second sum over the L newest places is what they add to the places before them in the window: its float score is within (L + 1) / 2^33 (`second_near`).
-- Where ln does not fall, that is at least what they add to the places from an index j on (`second_rise`).
use Rattle.std.proofs.Common.{◌≡◌, refl, sym, ap, ◌∙◌, subst, ℕ, suc, ◌+◌, ◌*◌, ◌-◌, ◌≤◌, ◌<◌, arith, List, [], ◌∷◌, ◌++◌, reverse, length, take, drop, length-append, length-take, length-drop, take-append-drop, take-add, drop-drop, nat_abs, Float}
use mathlib.Core.List.{reverse-append}
use lib.ListN.{length-reverse}
use lib.Ieee.{binary64}
use Rattle.floats.specs.Arithmetic.{◌⊕◌, ◌⊖◌}
use Rattle.floats.specs.Binary64.{zero64}
use Rattle.floats.proofs.Binary64.{near_as}
use Rattle.floats.proofs.Sums.{after_start, after_step, after_score, after_shift}
use Rattle.floats.specs.Terms.Rounded.{Near, pos64, err, After}
use Rattle.letters.specs.Place.{Place, ambiguous, plain, BelowAt, Below}
use Rattle.scans.specs.Setup.{Setup, ln_at, kmers}
use Rattle.scans.specs.Counts.{count, raise, cleared}
use Rattle.scans.specs.Scans.{second_value}
use Rattle.scans.specs.Score.{ln_value}
use Rattle.scans.specs.Judged.{sum_over_of, float_score, second_score}
use Rattle.scans.proofs.Shape.{UsualShape}
use Rattle.scans.proofs.Rising.{gain_rise}
use Rattle.scans.proofs.Counting.{hit_self, count_append, count_reverse, below_drop, below_take, below_reverse, Counted, raise_counted, cleared_counted}
use Rattle.scans.proofs.Exact.{added, sums_same}
use Rattle.scans.proofs.Gain.{InRange, gain, loss, added_ranged, gain_cons}
use Rattle.scans.proofs.FloatScore.{newest_first, float_near}

-- ---- The order of the places does not matter.
pub gain_reverse : (S : Setup) (q : List Place) → gain S (reverse q) ≡ gain S q
unfolding gain
gain_reverse S q = ap nat_abs (sums_same (ln_value S) q (reverse q) (kmers S) (λ x _. count_reverse x q))

module _ (S : Setup) (R : InRange S) where
  abbrev t : Float
  t = S.score_threshold

  -- ---- The backward scan's score of the L newest places, in naturals.
  module _ (q : List Place) (b : Below (kmers S) q) (h : length q ≤ S.window_size) where
    pub backward_near : (L : ℕ) → 0 < L → L ≤ length q → Near binary64 (float_score S (take L (reverse q))) (gain S (drop (length q - L) q)) (loss S L) (err (L + 1))
    backward_near L some l =
        let d : List Place = drop (length q - L) q in
        let long : length (reverse d) ≡ L = omega (arith, length-reverse d, length-drop (length q - L) q) in
        let n = float_near S R (reverse d) (below_reverse (kmers S) d (below_drop (kmers S) (length q - L) q b)) (omega arith) (omega arith) in
        rw (newest_first q L l, ← gain_reverse S d) (subst (λ (k : ℕ). Near binary64 (float_score S (reverse d)) (gain S (reverse d)) (loss S k) (err (k + 1))) long n)

    pub forward_near : (j m : ℕ) → 0 < m → j + m ≤ length q → Near binary64 (float_score S (take m (drop j q))) (gain S (take m (drop j q))) (loss S m) (err (m + 1))
    forward_near j m some l =
        let d : List Place = drop j q in
        let long : length (take m d) ≡ m = omega (arith, length-take m d, length-drop j q) in
        subst (λ (k : ℕ). Near binary64 (float_score S (take m d)) (gain S (take m d)) (loss S k) (err (k + 1))) long
        (float_near S R (take m d) (below_take (kmers S) m d (below_drop (kmers S) j q b)) (omega arith) (omega arith))

  -- ---- The second sum in the window q: the places seen, and those that are left, in the order read.
  module _ (q : List Place) where
    abbrev second : List ℕ → Place → Float
    second counts e = second_value S q (raise counts e) e

    -- What a place adds to the second sum it adds to the places that are left after it.
    second_added : (counts : List ℕ) (seen left : List Place) (e : Place) → BelowAt (kmers S) e → Counted (kmers S) counts seen → ((x : ℕ) → count x q ≡ count x seen + count x (e ∷ left))
        → second counts e ≡ added S left e
    second_added counts seen left ambiguous b c all = refl
    second_added counts seen left (plain x) b c all =
        let r = raise_counted (kmers S) counts seen (plain x) b c in
        ap (λ (z : ℕ). ln_at S z) (omega (arith, r.counted x, count_append x seen (plain x ∷ []), all x, hit_self x))

    -- s is the second sum over the places seen.
    abbrev Seconds : ℕ → List Place → Float → Type 0
    Seconds n left s = After n s (gain S q) (gain S left + n * pos64 t)

    second_all : (seen es left : List Place) (s : Float) (counts : List ℕ) → Below (kmers S) (es ++ left) → length seen + length (es ++ left) ≤ S.window_size → Counted (kmers S) counts seen
        → ((x : ℕ) → count x q ≡ count x seen + count x (es ++ left)) → Seconds (length seen) (es ++ left) s → Seconds (length seen + length es) left (sum_over_of second t s counts es)
    unfolding sum_over_of
    second_all seen [] left s counts b l c all a = let z : length seen ≡ length seen + 0 = omega arith in subst (λ (n : ℕ). Seconds n left s) z a
    second_all seen (e ∷ es) left s counts b l c all a =
        let rest : List Place = es ++ left in
        let more : List Place = seen ++ e ∷ [] in
        let longer : length more ≡ suc (length seen) = omega (arith, length-append seen (e ∷ [])) in
        let v : second counts e ≡ added S rest e = second_added counts seen rest e b.0 c all in
        let s' : Float = s ⊕ (second counts e ⊖ t) in
        let one : After (suc (length seen)) (s ⊕ (added S rest e ⊖ t)) (gain S q + pos64 (added S rest e)) (gain S (e ∷ rest) + length seen * pos64 t + pos64 t) =
        after_step a (omega (arith, R.window_small)) (added_ranged S R rest e (omega arith)) R.t_ranged in
        let next : Seconds (suc (length seen)) rest s' =
        rw v (after_shift (gain S q) (gain S rest + suc (length seen) * pos64 t) one (omega (arith, gain_cons S R rest e b.0 (omega arith)))) in
        let total : length more + length es ≡ length seen + suc (length es) = omega arith in
        subst (λ (n : ℕ). Seconds n left (sum_over_of second t s' (raise counts e) es)) total
        (second_all more es left s' (raise counts e) b.1 (omega arith) (raise_counted (kmers S) counts seen e b.0 c) (λ x. omega (arith, all x, count_append x seen (e ∷ [])))
        (subst (λ (n : ℕ). Seconds n rest s') (sym longer) next))

    -- The places before index a are left.
    pub second_near : Below (kmers S) q → length q ≤ S.window_size → (a L : ℕ) → 0 < L → a + L ≡ length q
        → Near binary64 (second_score S q (take L (reverse q))) (gain S q) (gain S (take a q) + loss S L) (err (L + 1))
    unfolding second_score
    second_near b h a L some e =
        let es : List Place = take L (reverse q) in
        let left : List Place = reverse (take a q) in
        let z : length q - L ≡ a = omega arith in
        let first : es ≡ reverse (drop a q) = newest_first q L (omega arith) ∙ ap (λ (i : ℕ). reverse (drop i q)) z in
        let whole : reverse q ≡ es ++ left = ap reverse (sym (take-append-drop a q)) ∙ reverse-append (take a q) (drop a q) ∙ ap (λ (l : List Place). l ++ left) (sym first) in
        let long : length es ≡ L = omega (arith, length-take L (reverse q), length-reverse q) in
        let start : Seconds 0 (es ++ left) zero64 = after_shift (gain S q) (gain S (es ++ left) + 0 * pos64 t) after_start (omega (arith, ap (gain S) whole, gain_reverse S q)) in
        let sum : Seconds L left (sum_over_of second t zero64 (cleared S) es) =
        subst (λ (n : ℕ). Seconds n left (sum_over_of second t zero64 (cleared S) es)) (let e : 0 + length es ≡ L = omega arith in e)
        (second_all [] es left zero64 (cleared S) (subst (λ (l : List Place). Below (kmers S) l) whole (below_reverse (kmers S) q b)) (omega (arith, ap length whole, length-reverse q)) (cleared_counted (kmers S))
        (λ x. omega (arith, ap (count x) whole, count_reverse x q)) start) in
        rw long
        (near_as (after_score sum (omega (arith, R.window_small)) (R.f_ranged L some (omega arith))) (omega (arith, gain_reverse S (take a q))) (omega arith))

  -- ---- ln does not fall: the more places, the more a place adds.
  module _ (shape : UsualShape S) where
    -- The window up to its m-th place from index j on, and from there to its end.
    pub second_rise : (q : List Place) → Below (kmers S) q → length q ≤ S.window_size → (j m : ℕ) → j + m ≤ length q
        → gain S (drop j q) + gain S (take (j + m) q) ≤ gain S q + gain S (take m (drop j q))
    second_rise q b h j m l =
        let u : List Place = take m (drop j q) in
        let v : List Place = take (j + m) q in
        let es : List Place = drop (j + m) q in
        let uv : v ≡ take j q ++ u = take-add j m q in
        let ue : u ++ es ≡ drop j q = ap (λ (z : List Place). u ++ z) (sym (drop-drop m j q)) ∙ take-append-drop m (drop j q) in
        let r = gain_rise S R shape u v es (λ x. omega (arith, ap (count x) uv, count_append x (take j q) u)) (omega (arith, ap length uv, length-append (take j q) u)) (below_drop (kmers S) (j + m) q b)
        (omega (arith, length-take (j + m) q, length-drop (j + m) q)) in
        omega (arith, r, ap (gain S) ue, ap (gain S) (take-append-drop (j + m) q))
