-- Tables of the usual shape: f of a sum is at least the sum of the f (`f_adds`), up to 2^-31 for each place.
use Rattle.std.proofs.Common.{◌≡◌, subst, ℕ, zero, suc, ◌+◌, ◌*◌, ◌≤◌, ◌<◌, arith}
use Rattle.floats.specs.Terms.Rounded.{pos64}
use Rattle.scans.specs.Setup.{Setup, f_at}
use Rattle.scans.specs.Terms.Units.{unevenness}
use Rattle.scans.proofs.Shape.{UsualShape}

module _ {S : Setup} (shape : UsualShape S) where
  pub f_adds : (a b : ℕ) → 0 < a → 0 < b → a + b ≤ S.window_size → pos64 (f_at S a) + pos64 (f_at S b) ≤ pos64 (f_at S (a + b)) + b * unevenness
  f_adds a zero some k h = absurd (let z : ⊥ = omega arith in z)
  f_adds a (suc zero) some k h =
      let z : suc a ≡ a + 1 = omega arith in
      subst (λ (n : ℕ). pos64 (f_at S a) + pos64 (f_at S 1) ≤ pos64 (f_at S n) + 1 * unevenness) z (omega (arith, shape.f_first a some (omega arith)))
  f_adds a (suc (suc b)) some k h =
      let z : suc (a + suc b) ≡ a + suc (suc b) = omega arith in
      subst (λ (n : ℕ). pos64 (f_at S a) + pos64 (f_at S (suc (suc b))) ≤ pos64 (f_at S n) + suc (suc b) * unevenness) z
      (omega (arith, f_adds a (suc b) some (omega arith) (omega arith), shape.f_bends (suc b) (a + suc b) (omega arith) (omega arith) (omega arith)))
