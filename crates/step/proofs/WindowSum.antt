-- The window's float sum, with tables in range: after i letters it is within i * 2^-33 of the exact sum over the window's k-mers, and the window score within (i + 3) * 2^-33 of the exact score.
use Rattle.std.proofs.Common.{◌≡◌, sym, subst, ℕ, suc, ◌+◌, ◌*◌, ◌≤◌, ◌<◌, mul-le-mul_right, arith, List, [], ◌∷◌, ◌++◌, length, T, Float}
use lib.Ieee.{binary64, add, sub, lt}
use Rattle.floats.specs.Binary64.{one, zero64}
use Rattle.floats.proofs.Binary64.{one_pos, near_as}
use Rattle.floats.proofs.Tests.{lt_near}
use Rattle.floats.proofs.Sums.{zero_near, sum_leave, sum_join, sum_score}
use Rattle.floats.specs.Terms.Rounded.{Near, pos64, err, half}
use Rattle.letters.specs.Place.{Place, ambiguous, plain, BelowAt, Below}
use Rattle.scans.specs.Setup.{Setup, ln_at, kmers}
use Rattle.scans.specs.Counts.{hit, count}
use Rattle.scans.proofs.Counting.{hit_self, count_snoc}
use Rattle.scans.proofs.Exact.{added}
use Rattle.scans.proofs.Gain.{InRange, gain, loss, adds_none, added_ranged, gain_snoc, gain_cons, gain_bound}
use Rattle.step.specs.Step.{Run, sum_without, sum_with, window_score}

module _ (S : Setup) (R : InRange S) where
  -- One place more than q: the gain stays below 2^20.
  gain_small : (q : List Place) (e : Place) → Below (kmers S) q → length q < S.window_size → gain S q + pos64 (added S q e) ≤ 1048575 * one
  gain_small q e b l =
      let g = gain_bound S R q b (omega arith) in
      let a : pos64 (added S q e) ≤ 16 * one = (added_ranged S R q e l).high in
      let w : length q * one ≤ 65534 * one = mul-le-mul_right one (omega (arith, R.window_small)) in
      omega (arith, one_pos)

  -- The oldest entry leaves.
  pub leave_near : (s : Float) (e : Place) (q : List Place) (E : ℕ) → Below (kmers S) (e ∷ q) → length q < S.window_size → E ≤ one
      → Near binary64 s (gain S (e ∷ q)) 0 E → Near binary64 (sum_without S (e ∷ q) s e) (gain S q) 0 (E + half)
  leave_near s ambiguous q E b l h N = near_as N (omega (arith, gain_cons S R q ambiguous tt l, adds_none S q)) (omega arith)
  leave_near s (plain x) q E b l h N =
      let c : hit x (plain x) + count x q ≡ suc (count x q) = omega (arith, hit_self x) in
      let e : Place = plain x in
      subst (λ (z : ℕ). Near binary64 (sub binary64 s (ln_at S z)) (gain S q) 0 (E + half)) (sym c)
      (sum_leave (added_ranged S R q e l) (gain_small q e b.1 l) h (subst (λ (z : ℕ). Near binary64 s z 0 E) (gain_cons S R q e b.0 l) N))

  -- A new entry joins.
  pub join_near : (s : Float) (e : Place) (q : List Place) (E : ℕ) → Below (kmers S) q → BelowAt (kmers S) e → length q < S.window_size → E ≤ one
      → Near binary64 s (gain S q) 0 E → Near binary64 (sum_with S (q ++ e ∷ []) s e) (gain S (q ++ e ∷ [])) 0 (E + half)
  join_near s ambiguous q E b be l h N = near_as N (omega (arith, gain_snoc S R q ambiguous tt l, adds_none S q)) (omega arith)
  join_near s (plain x) q E b be l h N =
      let c : count x (q ++ plain x ∷ []) ≡ suc (count x q) = omega (arith, hit_self x, count_snoc x q (plain x)) in
      let e : Place = plain x in
      subst (λ (z : ℕ). Near binary64 (add binary64 s (ln_at S z)) (gain S (q ++ e ∷ [])) 0 (E + half)) (sym c)
      (subst (λ (z : ℕ). Near binary64 (add binary64 s (added S q e)) z 0 (E + half)) (sym (gain_snoc S R q e be l))
      (sum_join (added_ranged S R q e l) (gain_small q e b l) h N))

  -- A window score above 0.
  pub window_above_lem : (a : Run) (i : ℕ) → Below (kmers S) a.window → length a.window ≤ S.window_size → 0 < length a.window → i ≤ 2147483648
      → Near binary64 a.sum (gain S a.window) 0 (err i) → T (lt zero64 (window_score S a)) → loss S (length a.window) ≤ gain S a.window + err (i + 3)
  unfolding window_score
  window_above_lem a i b l some li N t =
      let len : ℕ = length a.window in
      let W = sum_score len N li (omega (arith, R.window_small)) (gain_bound S R a.window b l) (R.f_ranged len some l) R.t_ranged in
      omega (arith, lt_near zero_near W t)
