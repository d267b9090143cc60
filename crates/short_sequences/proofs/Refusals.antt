-- What the checks refuse.
use Rattle.std.proofs.Common.{◌≡◌, refl, Bool, true, false, ◌||◌, cond, List, ℕ, ◌+◌, ◌≤◌, arith, ltb, length}
use borrow.Author.Tests.{ltb-false}
use Rattle.short_sequences.specs.Tallies.{refusal}

-- An accepted size is one of 1 to 8, and there is room for its tallies.
pub accepted : (m : ℕ) (d : List ℕ) → refusal m d ≡ 0 → (1 ≤ m) × (m ≤ 8) × (m + 1 ≤ length d)
accepted m d h = go (ltb m 1) refl (ltb 8 m) refl (ltb (length d) (m + 1)) refl h
  where
    go : (a : Bool) → ltb m 1 ≡ a → (b : Bool) → ltb 8 m ≡ b → (e : Bool) → ltb (length d) (m + 1) ≡ e
        → ◌≡◌ {A = ℕ} (cond (a || b) 22 (cond e 11 0)) 0 → (1 ≤ m) × (m ≤ 8) × (m + 1 ≤ length d)
    go true p b q e r h = absurd (let z : ⊥ = omega arith in z)
    go false p true q e r h = absurd (let z : ⊥ = omega arith in z)
    go false p false q true r h = absurd (let z : ⊥ = omega arith in z)
    go false p false q false r h = (ltb-false m 1 p, ltb-false 8 m q, ltb-false (length d) (m + 1) r)
