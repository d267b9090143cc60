-- `tabulate f n`: its length, its entries, and a loop that fills the front of a buffer with it.
use Rattle.std.proofs.Common.{◌≡◌, refl, sym, ap, ◌∙◌, List, ℕ, zero, suc, ◌+◌, ◌≤◌, ◌<◌, add-zero, arith, length, get_or, set}
use Rattle.buffers.specs.Fill.{tabulate, tabulate_from}
use Rattle.buffers.proofs.Filling.{Fills, fill_start, fill_turn}

from_length {ℓ} : {A : Type ℓ} (f : ℕ → A) (n i : ℕ) → length (tabulate_from f n i) ≡ n
unfolding tabulate_from
from_length f zero i = refl
from_length f (suc n) i = ap suc (from_length f n (suc i))

from_at {ℓ} : {A : Type ℓ} (f : ℕ → A) (n i j : ℕ) (z : A) → j < n → get_or (tabulate_from f n i) j z ≡ f (i + j)
unfolding tabulate_from
from_at f zero i j z h = absurd (let b : ⊥ = omega arith in b)
from_at f (suc n) i zero z h = ap f (sym (add-zero i))
from_at f (suc n) i (suc j) z h = from_at f n (suc i) j z (omega arith) ∙ ap f (let e : suc i + j ≡ i + suc j = omega arith in e)

pub tabulate_length {ℓ} : {A : Type ℓ} (f : ℕ → A) (n : ℕ) → length (tabulate f n) ≡ n
unfolding tabulate
tabulate_length f n = from_length f n 0

pub tabulate_at {ℓ} : {A : Type ℓ} (f : ℕ → A) (n j : ℕ) (z : A) → j < n → get_or (tabulate f n) j z ≡ f j
unfolding tabulate
tabulate_at f n j z h = from_at f n 0 j z h ∙ ap f (let e : 0 + j ≡ j = omega arith in e)

-- A loop that fills a buffer d with f 0, f 1 .. f (n - 1).
abbrev pub Tabulates : {A : Type 0} → (ℕ → A) → List A → ℕ → ℕ → List A → Type 0
Tabulates f d n i l = Fills (tabulate f n) d n i l

module _ {A : Type 0} (f : ℕ → A) {d : List A} {n : ℕ} where
  pub tabulate_start : n ≤ length d → Tabulates f d n 0 d
  tabulate_start h = fill_start (tabulate_length f n) h

  pub tabulate_turn : {i : ℕ} {l : List A} → Tabulates f d n i l → (z v : A) → i < n → v ≡ f i → Tabulates f d n (i + 1) (set l i v)
  tabulate_turn {i = i} a z v h g = fill_turn a z v h (g ∙ sym (tabulate_at f n i z h))
