-- The largest of a table's entries 1..w.
use Rattle.std.proofs.Common.{◌≡◌, refl, sym, ap, ap₂, ◌∙◌, List, ⊎_elim, ℕ, zero, suc, ◌+◌, ◌-◌, ◌≤◌, ◌<◌, max, eq-or-lt_of_le, arith, length, get_or}
use native.Mathlib.Nat.{max-zero}
use lib.ListN.{get_or-eq_default}
use Rattle.strongest.specs.Strongest.{largest}

module _ (table : List ℕ) where
  pub largest_at : (w i : ℕ) → 0 < i → i ≤ w → get_or table i 0 ≤ largest table w
  unfolding largest
  largest_at zero i h k = absurd (let z : ⊥ = omega arith in z)
  largest_at (suc w) i h k =
      ⊎_elim (λ e. omega (arith, ap (λ (j : ℕ). get_or table j 0) e)) (λ l. omega (arith, largest_at w i h (omega arith))) (eq-or-lt_of_le k)

  pub largest_up : (v w : ℕ) → v ≤ w → largest table v ≤ largest table w
  unfolding largest
  largest_up v zero h = let e : v ≡ 0 = omega arith in rw e (omega arith)
  largest_up v (suc w) h = ⊎_elim (λ e. rw e (omega arith)) (λ l. omega (arith, largest_up v w (omega arith))) (eq-or-lt_of_le h)

  -- ---- For a loop over the entries from 1 on, of which those before i were read.
  pub largest_none : largest table 0 ≡ 0
  unfolding largest
  largest_none = refl

  pub largest_next : (i m v : ℕ) → 0 < i → m ≡ largest table (i - 1) → v ≡ max m (get_or table i 0) → v ≡ largest table (i + 1 - 1)
  unfolding largest
  largest_next i m v h e v_is =
      let same : i + 1 - 1 ≡ suc (i - 1) = omega arith in
      let this : i ≡ suc (i - 1) = omega arith in
      v_is ∙ ap₂ (λ (x n : ℕ). max x (get_or table n 0)) e this ∙ sym (ap (largest table) same)

  -- Entries past the end count as 0.
  pub largest_past : (v w : ℕ) → length table ≤ v + 1 → v ≤ w → largest table v ≡ largest table w
  unfolding largest
  largest_past v zero h k = let e : v ≡ 0 = omega arith in rw e
  largest_past v (suc w) h k =
      ⊎_elim (λ e. rw e)
      (λ l. largest_past v w h (omega arith) ∙ sym (ap (λ (x : ℕ). max (largest table w) x) (get_or-eq_default table 0 (omega arith)) ∙ max-zero (largest table w)))
      (eq-or-lt_of_le k)

-- The laws by which `largest` is proved.
pub ruleset largest_of = (largest_none, largest_next, largest_past)
