-- The strongest stretch: what a search has found, and what it can have missed. m places up to b start at place b + 1 - m.
use Rattle.std.proofs.Common.{◌≡◌, ℕ, zero, suc, ◌+◌, ◌≤◌, ◌<◌, arith, pos, ◌+ℤ◌, ◌≤ℤ◌, ◌<ℤ◌}
use borrow.Author.Tests.{eq-eqb}
use Rattle.strongest.specs.Strongest.{Asked, available, steps, unread, score_at, best_of, best, start, best_score, gap_over, gap}
use Rattle.strongest.specs.Checks.{refusal}
use Rattle.strongest.proofs.Best.{best_some, best_within, best_highest, best_longest}
use Rattle.strongest.proofs.Admitting.{admitted}
use Rattle.strongest.proofs.Unread.{unread_within_gap}

module _ (Q : Asked) where
  -- No stretch read scores higher than the best.
  pub read_highest : (m : ℕ) → 0 < m → m ≤ steps Q → score_at Q m ≤ℤ best_score Q
  read_highest m h l = best_highest (score_at Q) (steps Q) m h l

  -- Of equal scores the longer stretch is the best: every longer one read scores lower.
  pub longer_lower : (m : ℕ) → best Q < m → m ≤ steps Q → score_at Q m <ℤ best_score Q
  longer_lower m h l = best_longest (score_at Q) (steps Q) m h l

  -- With nothing unread the gap is 0.
  pub no_gap : unread Q ≡ 0 → gap Q ≡ 0
  unfolding gap_over
  no_gap h = rw (eq-eqb (unread Q) 0 h)

  -- With nothing unread the best is the best of all.
  pub best_of_all : unread Q ≡ 0 → (m : ℕ) → 0 < m → m ≤ available Q → score_at Q m ≤ℤ best_score Q
  best_of_all h m some l = read_highest m some (omega arith)

-- An accepted request.
module _ (Q : Asked) (codes_len counts_len : ℕ) (accepted : refusal Q codes_len counts_len ≡ 0) where
  -- No unread start beats the best by more than the gap.
  pub no_better_unread : (m : ℕ) → steps Q < m → m ≤ available Q → score_at Q m ≤ℤ (best_score Q +ℤ pos (gap Q))
  no_better_unread =
      let A = admitted Q codes_len counts_len accepted in
      unread_within_gap Q A.inside A.kmer_low

  -- A step is made, and the best stretch is one of those read.
  pub step_made : 0 < steps Q
  step_made = let A = admitted Q codes_len counts_len accepted in omega (arith, A.budget_some, A.window_low)

  pub best_read : (0 < best Q) × (best Q ≤ steps Q) × (start Q + best Q ≡ Q.place + 1)
  best_read =
      let some = best_some (score_at Q) (steps Q) in
      let l = within (steps Q) step_made in
      (some, l, omega arith)
    where
      within : (n : ℕ) → 0 < n → best_of (score_at Q) n ≤ n
      within zero h = absurd (let z : ⊥ = omega arith in z)
      within (suc n) h = best_within (score_at Q) n
