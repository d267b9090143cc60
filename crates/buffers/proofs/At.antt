-- The entry of a list at an index inside it does not depend on the default.
use Rattle.std.proofs.Common.{◌≡◌, refl, List, [], ◌∷◌, ℕ, zero, suc, ◌<◌, arith, length, get_or}

pub default_free {ℓ} : {A : Type ℓ} (l : List A) (i : ℕ) (y z : A) → i < length l → get_or l i y ≡ get_or l i z
default_free [] i y z h = absurd (let b : ⊥ = omega arith in b)
default_free (x ∷ l) zero y z h = refl
default_free (x ∷ l) (suc i) y z h = default_free l i y z (omega arith)
