-- A fact about what a test chooses follows from the fact in each of its two cases; and two tests neither of which holds.
use Rattle.std.proofs.Common.{◌≡◌, refl, Bool, true, false, cond, not, ◌||◌, true≢false, T}

pub by_test {ℓ} : {A : Type ℓ} (Q : A → Type 0) (b : Bool) (x y : A) → (T b → Q x) → (T (not b) → Q y) → Q (cond b x y)
by_test Q true x y f g = f tt
by_test Q false x y f g = g tt

-- The same of two values that the test chooses alike.
pub by_test_both {ℓ ℓ'} : {A : Type ℓ} {B : Type ℓ'} (Q : A → B → Type 0) (b : Bool) (x y : A) (u v : B) → (T b → Q x u) → (T (not b) → Q y v) → Q (cond b x y) (cond b u v)
by_test_both Q true x y u v f g = f tt
by_test_both Q false x y u v f g = g tt

pub neither : (a b : Bool) → a || b ≡ false → (a ≡ false) × (b ≡ false)
neither true b e = absurd (true≢false e)
neither false b e = (refl, e)
