-- Tables in range and of the usual shape: the more places stand before it, the more a place adds (`added_more`); so places add the more to the larger of two stretches (`gain_rise`).
use Rattle.std.proofs.Common.{◌≡◌, ap, subst, ℕ, zero, suc, ◌+◌, ◌-◌, ◌≤◌, ◌<◌, le_refl, arith, List, [], ◌∷◌, ◌++◌, append-nil, length, length-append}
use lib.Seq.{append_snoc}
use Rattle.floats.specs.Binary64.{zero64}
use Rattle.floats.proofs.Compare.{le_value}
use Rattle.floats.specs.Terms.Rounded.{pos64}
use Rattle.letters.specs.Place.{Place, ambiguous, plain, Below}
use Rattle.scans.specs.Setup.{Setup, ln_at, kmers}
use Rattle.scans.specs.Counts.{count}
use Rattle.scans.proofs.Counting.{count_append, count_le}
use Rattle.scans.proofs.Exact.{added}
use Rattle.scans.proofs.Gain.{InRange, gain, gain_snoc}
use Rattle.scans.proofs.Shape.{UsualShape}

module _ (S : Setup) (R : InRange S) (shape : UsualShape S) where
  ln_more : (c d : ℕ) → 0 < c → c + d ≤ S.window_size → pos64 (ln_at S c) ≤ pos64 (ln_at S (c + d))
  ln_more c zero some l = let z : c ≡ c + 0 = omega arith in subst (λ (n : ℕ). pos64 (ln_at S c) ≤ pos64 (ln_at S n)) z (le_refl (pos64 (ln_at S c)))
  ln_more c (suc d) some l =
      let x = R.ln_ranged (c + d) (omega arith) (omega arith) in
      let y = R.ln_ranged (suc (c + d)) (omega arith) (omega arith) in
      let z : suc (c + d) ≡ c + suc d = omega arith in
      subst (λ (n : ℕ). pos64 (ln_at S c) ≤ pos64 (ln_at S n)) z
      (omega (arith, ln_more c d some (omega arith), (le_value x.ok y.ok).0 (shape.ln_rises (c + d) (omega arith) (omega arith)), x.low, y.low))

  pub added_more : (u v : List Place) (e : Place) → ((x : ℕ) → count x u ≤ count x v) → length v < S.window_size → pos64 (added S u e) ≤ pos64 (added S v e)
  added_more u v ambiguous f l = le_refl (pos64 zero64)
  added_more u v (plain x) f l =
      let d : ℕ = count x v - count x u in
      let z : suc (count x u) + d ≡ suc (count x v) = omega (arith, f x) in
      subst (λ (n : ℕ). pos64 (ln_at S (suc (count x u))) ≤ pos64 (ln_at S n)) z (ln_more (suc (count x u)) d (omega arith) (omega (arith, f x, count_le x v)))

  -- Places that join both u and the larger v.
  pub gain_rise : (u v es : List Place) → ((x : ℕ) → count x u ≤ count x v) → length u ≤ length v → Below (kmers S) es → length v + length es ≤ S.window_size
      → gain S (u ++ es) + gain S v ≤ gain S (v ++ es) + gain S u
  gain_rise u v [] f k b l = omega (arith, ap (gain S) (append-nil u), ap (gain S) (append-nil v))
  gain_rise u v (e ∷ es) f k b l =
      let u' : List Place = u ++ e ∷ [] in
      let v' : List Place = v ++ e ∷ [] in
      let r = gain_rise u' v' es (λ x. omega (arith, f x, count_append x u (e ∷ []), count_append x v (e ∷ []))) (omega (arith, length-append u (e ∷ []), length-append v (e ∷ []))) b.1
      (omega (arith, length-append v (e ∷ []))) in
      omega (arith, r, ap (gain S) (append_snoc u e es), ap (gain S) (append_snoc v e es), gain_snoc S R u e b.0 (omega arith), gain_snoc S R v e b.0 (omega arith), added_more u v e f (omega arith))
