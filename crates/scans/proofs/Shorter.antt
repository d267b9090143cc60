-- Tables in range: a stretch that a scan finds has no better shorter one from the same first place, in exact scores and up to the errors of the float scores.
-- Stated of `dust_backward`, so for both approx settings, and for any window, so for both strands.
use Rattle.std.proofs.Common.{◌≡◌, subst, ℕ, ◌+◌, ◌*◌, ◌≤◌, ◌<◌, mul-le-mul_right, arith, List, [], ◌∷◌, length, take, drop, length-take, length-drop, pos, ◌+ℤ◌, ◌*ℤ◌, Float}
use Rattle.floats.proofs.Sums.{err_units}
use Rattle.floats.proofs.Whole.{is_add, is_scaled, is_le}
use Rattle.floats.specs.Terms.Rounded.{eps, err}
use Rattle.letters.specs.Place.{Place, Below}
use Rattle.scans.specs.Setup.{Setup, kmers}
use Rattle.scans.specs.Scans.{Find, none, at, dust_forward, dust_backward}
use Rattle.scans.specs.Score.{score, allowance, NoBetterShorter}
use Rattle.scans.proofs.Finds.{backward_facts}
use Rattle.scans.proofs.ForwardScore.{forward_shorter}
use Rattle.scans.proofs.Gain.{InRange, gain, loss, score_is}

abbrev FoundShorter : Setup → List Place → Find → Type 0
FoundShorter S q none = Unit {0}
FoundShorter S q (at j) = NoBetterShorter S (drop j q)

module _ (S : Setup) (R : InRange S) (q : List Place) (b : Below (kmers S) q) (h : length q ≤ S.window_size) where
  forward_no_better : (j : ℕ) (x : Float) → 0 < length q → (dust_forward S q j x).sums.found ≡ length q → NoBetterShorter S (drop j q)
  forward_no_better j x some e =
      record {
        at_most = λ m p k.
            let d : List Place = drop j q in
            let n : ℕ = length d in
            let l : ℕ = length (take m d) in
            let c : ℕ = 4294967296 in
            let u : ℕ = allowance n in
            let lt = length-take m d in
            let ld = length-drop j q in
            (is_le (score S (take m d) *ℤ pos c) (score S d *ℤ pos c +ℤ pos u) (gain S (take m d) * c) (loss S l * c) (gain S d * c + u) (loss S n * c + 0)
            (is_scaled (score S (take m d)) c (gain S (take m d)) (loss S l) (score_is S R (take m d) (omega arith) (omega arith)))
            (is_add (score S d *ℤ pos c) (pos u) (gain S d * c) (loss S n * c) u 0 (is_scaled (score S d) c (gain S d) (loss S n) (score_is S R d (omega arith) (omega arith))) (omega arith))).1
            (weigh (gain S (take m d)) (loss S n) (gain S d) (loss S l) l n (omega arith) (forward_shorter S R q j x b h some e m p k));
      }
    where
      weigh : (A B C D l n : ℕ) → l ≤ n → A + B ≤ C + D + (err (l + 1) + err (n + 1)) → A * 4294967296 + (B * 4294967296 + 0) ≤ C * 4294967296 + allowance n + D * 4294967296
      weigh A B C D l n k f = omega (arith, mul-le-mul_right eps k, err_units (2 * n + 2))

-- A scan's find, at index j of the window.
pub scan_no_better_shorter : (S : Setup) → InRange S → (q : List Place) → Below (kmers S) q → length q ≤ S.window_size → (j : ℕ) → (dust_backward S q).find ≡ at j → NoBetterShorter S (drop j q)
scan_no_better_shorter S R [] b h j e = record { at_most = λ m p k. absurd (none_shorter j m k) }
  where
    none_shorter : (j m : ℕ) → m < length {A = Place} (drop j []) → ⊥
    none_shorter j m k = omega (arith, length-drop {A = Place} j [])
scan_no_better_shorter S R (p ∷ q) b h j e =
    subst (λ (f : Find). FoundShorter S (p ∷ q) f) e
    (backward_facts S (p ∷ q) (λ (f : Find) (_ : List ℕ). FoundShorter S (p ∷ q) f) (λ _. tt) (λ i x g. forward_no_better S R (p ∷ q) b h i x (omega arith) g))
