-- What the request 'Longer stretch on equal scores' changed: the start, which is now at or before the one it was; score and gap are as they were, and so are the steps, which go by no rule.
use Rattle.std.proofs.Common.{◌≡◌, refl, sym, ap, Bool, true, false, not, cond, ℕ, zero, suc, ◌≤◌, arith, T, ℤ, ◌≤ℤ◌, ◌<ℤ◌}
use lib.Signed.{lt_z, le_z, le_z_yes, lt_z_yes, lt_z_no, clash_ℤ}
use Rattle.strongest.specs.Strongest.{Asked, steps, score_at, best_of, start, best_score, gap_over, gap}
use Rattle.strongest.specs.Before.{shorter_of, start_before, score_before, gap_before}
use Rattle.strongest.proofs.Order.{lt_le, not_le, both_le}
use Rattle.strongest.proofs.Best.{best_most}

-- The old choice o and the new one b, of which the same is known, before and after a stretch of n places.
record Like (s : ℕ → ℤ) (o b : ℕ) : Type 0 where
  score : s o ≡ s b
  no_longer : o ≤ b

module _ (s : ℕ → ℤ) where
  step : (o b n : ℕ) → Like s o b → b ≤ n → Like s (cond (lt_z (s o) (s n)) n o) (cond (le_z (s b) (s n)) n b)
  step o b n h k = go (lt_z (s o) (s n)) (le_z (s b) (s n)) (λ t. lt_z_yes t) (λ t. lt_z_no t) (λ t. le_z_yes t) (λ t. not_le (s b) (s n) t)
    where
      go : (p q : Bool) → (T p → s o <ℤ s n) → (T (not p) → s n ≤ℤ s o) → (T q → s b ≤ℤ s n) → (T (not q) → s n <ℤ s b) → Like s (cond p n o) (cond q n b)
      go true true lt no_lt le no_le = record { score = refl; no_longer = omega arith }
      go true false lt no_lt le no_le = absurd (clash_ℤ (lt tt) (lt_le (s n) (s o) (rw h.score (no_le tt))))
      go false true lt no_lt le no_le = record { score = both_le (s o) (s n) (rw h.score (le tt)) (no_lt tt); no_longer = omega (arith, h.no_longer) }
      go false false lt no_lt le no_le = h

  like : (l : ℕ) → Like s (shorter_of s l) (best_of s l)
  unfolding shorter_of best_of
  like zero = record { score = refl; no_longer = omega arith }
  like (suc l) = step (shorter_of s l) (best_of s l) (suc l) (like l) (best_most s l)

-- For every request.
module _ (Q : Asked) where
  pub same_score : best_score Q ≡ score_before Q
  same_score = sym (like (score_at Q) (steps Q)).score

  pub same_gap : gap Q ≡ gap_before Q
  same_gap = ap (gap_over Q) same_score

  pub start_no_later : start Q ≤ start_before Q
  start_no_later = omega (arith, (like (score_at Q) (steps Q)).no_longer)
