-- The best of the stretches of 1 to l places, for any scores s.
use Rattle.std.proofs.Common.{◌≡◌, refl, sym, ap, ◌∙◌, true, false, ⊎_elim, ℕ, zero, suc, ◌≤◌, ◌<◌, eq-or-lt_of_le, arith, ℤ, ◌≤ℤ◌, ◌<ℤ◌}
use lib.Signed.{le_z, le_z_yes, ≤ℤ_refl}
use Rattle.scans.proofs.Test.{by_test}
use Rattle.strongest.specs.Strongest.{best_of}
use Rattle.strongest.proofs.Order.{le_trans, lt_le, not_le}

module _ (s : ℕ → ℤ) where
  -- ---- Case by case.
  pub best_one : best_of s 1 ≡ 1
  unfolding best_of
  best_one = by_test (λ (b : ℕ). b ≡ 1) (le_z (s 1) (s 1)) 1 1 (λ t. refl) (λ t. refl)

  pub best_new : (l : ℕ) → le_z (s (best_of s l)) (s (suc l)) ≡ true → best_of s (suc l) ≡ suc l
  unfolding best_of
  best_new l e = rw e

  pub best_old : (l : ℕ) → le_z (s (best_of s l)) (s (suc l)) ≡ false → best_of s (suc l) ≡ best_of s l
  unfolding best_of
  best_old l e = rw e

  -- ---- What the best is.
  pub best_some : (l : ℕ) → 0 < best_of s l
  unfolding best_of
  best_some zero = omega arith
  best_some (suc l) =
      by_test (λ (b : ℕ). 0 < b) (le_z (s (best_of s l)) (s (suc l))) (suc l) (best_of s l) (λ t. omega arith) (λ t. best_some l)

  pub best_most : (l : ℕ) → best_of s l ≤ suc l
  unfolding best_of
  best_most zero = omega arith
  best_most (suc l) =
      by_test (λ (b : ℕ). b ≤ suc (suc l)) (le_z (s (best_of s l)) (s (suc l))) (suc l) (best_of s l) (λ t. omega arith) (λ t. omega (arith, best_most l))

  pub best_within : (l : ℕ) → best_of s (suc l) ≤ suc l
  unfolding best_of
  best_within zero = by_test (λ (b : ℕ). b ≤ 1) (le_z (s 1) (s 1)) 1 1 (λ t. omega arith) (λ t. omega arith)
  best_within (suc l) =
      by_test (λ (b : ℕ). b ≤ suc (suc l)) (le_z (s (best_of s (suc l))) (s (suc (suc l)))) (suc (suc l)) (best_of s (suc l))
      (λ t. omega arith) (λ t. omega (arith, best_within l))

  -- None scores higher.
  pub best_highest : (l m : ℕ) → 0 < m → m ≤ l → s m ≤ℤ s (best_of s l)
  unfolding best_of
  best_highest zero m h k = absurd (let z : ⊥ = omega arith in z)
  best_highest (suc l) m h k =
      let old : ℤ = s (best_of s l) in
      by_test (λ (b : ℕ). s m ≤ℤ s b) (le_z old (s (suc l))) (suc l) (best_of s l)
      (λ t. ⊎_elim (λ e. rw e (≤ℤ_refl (s (suc l)))) (λ j. le_trans (s m) old (s (suc l)) (best_highest l m h (omega arith)) (le_z_yes t)) (eq-or-lt_of_le k))
      (λ t. ⊎_elim (λ e. rw e (lt_le (s (suc l)) old (not_le old (s (suc l)) t))) (λ j. best_highest l m h (omega arith)) (eq-or-lt_of_le k))

  -- Every longer one scores lower.
  pub best_longest : (l m : ℕ) → best_of s l < m → m ≤ l → s m <ℤ s (best_of s l)
  unfolding best_of
  best_longest zero m h k = absurd (let z : ⊥ = omega arith in z)
  best_longest (suc l) m h k =
      let old : ℤ = s (best_of s l) in
      by_test (λ (b : ℕ). b < m → s m <ℤ s b) (le_z old (s (suc l))) (suc l) (best_of s l)
      (λ t j. absurd (let z : ⊥ = omega arith in z))
      (λ t j. ⊎_elim (λ e. rw e (not_le old (s (suc l)) t)) (λ i. best_longest l m j (omega arith)) (eq-or-lt_of_le k))
      h

-- Only the scores of 1 to l places count.
pub best_same : (s r : ℕ → ℤ) (l : ℕ) → ((m : ℕ) → 0 < m → m ≤ l → s m ≡ r m) → best_of s l ≡ best_of r l
unfolding best_of
best_same s r zero h = refl
best_same s r (suc zero) h = best_one s ∙ sym (best_one r)
best_same s r (suc (suc l)) h =
    let e : best_of s (suc l) ≡ best_of r (suc l) = best_same s r (suc l) (λ m p q. h m p (omega arith)) in
    let same : s (best_of s (suc l)) ≡ r (best_of r (suc l)) = h (best_of s (suc l)) (best_some s (suc l)) (omega (arith, best_within s l)) ∙ ap r e in
    rw (same, h (suc (suc l)) (omega arith) (omega arith), e)
