-- Tables of the usual shape: ln entries do not fall, and f grows the more the longer the stretch is, up to 2^-31 for each place (`f_widens`).
use Rattle.std.proofs.Common.{◌≡◌, refl, subst, Bool, ◌&&◌, List, ⊎_elim, ℕ, zero, suc, ◌+◌, ◌-◌, ◌*◌, ◌≤◌, ◌<◌, eq-or-lt_of_le, arith, get_or, T, lit≤, Float}
use lib.Ieee.{nan, binary64, le}
use lib.Ieee.Fits.{and_l, and_r}
use Rattle.floats.proofs.Binary64.{near_self, near_as, count_sub}
use Rattle.floats.proofs.Compare.{le_self}
use Rattle.floats.proofs.Order.{le_trans}
use Rattle.floats.proofs.Tests.{le_near}
use Rattle.floats.specs.Value.{Finite}
use Rattle.floats.specs.Terms.Rounded.{Near, Ranged, eps, pos64, half}
use Rattle.scans.specs.Setup.{Setup, ln_at, f_at}
unfoldable pub use Rattle.scans.specs.Terms.Units.{margin, unevenness}
use Rattle.scans.specs.Terms.Shape.{f_step, usual_to, Usual}
use Rattle.scans.proofs.Gain.{InRange}
use Rattle.scans.proofs.Range.{in_range_lem}

pub margin_eps : margin ≡ 4398046511104 * eps
unfolding margin eps
margin_eps = refl

pub unevenness_eps : unevenness ≡ 8388608 * eps
unfolding unevenness eps
unevenness_eps = refl

-- ln entries 1..w do not fall; no difference of two f entries, one after the other, is below one before it, nor below f entry 1.
pub record UsualShape (S : Setup) : Type 0 where
  pub ln_rises : (c : ℕ) → 0 < c → c < S.window_size → T (le (ln_at S c) (ln_at S (suc c)))
  pub f_first : (j : ℕ) → 0 < j → j < S.window_size → pos64 (f_at S 1) + pos64 (f_at S j) ≤ pos64 (f_at S (suc j)) + unevenness
  pub f_bends : (i j : ℕ) → 0 < i → i ≤ j → j < S.window_size → pos64 (f_at S (suc i)) + pos64 (f_at S j) ≤ pos64 (f_at S (suc j)) + pos64 (f_at S i) + unevenness

pub usual_range : {S : Setup} → Usual S → InRange S
usual_range {S} u = in_range_lem S u.checked u.ranged

-- The tests at entry m + 1.
abbrev tested : List Float → List Float → ℕ → Bool
tested ln f m = le (get_or ln (suc m) nan) (get_or ln (suc (suc m)) nan) && le (f_step f m) (f_step f (suc m))

usual_at : (ln f : List Float) (n : ℕ) → T (usual_to ln f n) → (m : ℕ) → m < n → T (tested ln f m)
unfolding usual_to
usual_at ln f zero t m h = absurd (omega arith)
usual_at ln f (suc n) t m h =
    ⊎_elim (λ (e : suc m ≡ suc n). let z : n ≡ m = omega arith in subst (λ (i : ℕ). T (tested ln f i)) z (and_r (usual_to ln f n) (tested ln f n) t))
    (λ (l : suc m < suc n). usual_at ln f n (and_l (usual_to ln f n) (tested ln f n) t) m (omega arith)) (eq-or-lt_of_le h)

module _ {S : Setup} (usual : Usual S) where
  ranged : (l : ℕ) → l < S.window_size → Ranged 1048576 (f_at S (suc l))
  ranged l h = (usual_range usual).f_ranged (suc l) (omega arith) h

  abbrev step : ℕ → Float
  step = f_step S.f

  tests : (m : ℕ) → m + 1 < S.window_size → T (le (ln_at S (suc m)) (ln_at S (suc (suc m)))) × T (le (step m) (step (suc m)))
  tests m h =
      let x : Bool = le (ln_at S (suc m)) (ln_at S (suc (suc m))) in
      let y : Bool = le (step m) (step (suc m)) in
      let t = usual_at S.ln S.f (S.window_size - 1) usual.shaped m (omega arith) in
      (and_l x y t, and_r x y t)

  -- Each step of f is rounded once.
  step_near : (l : ℕ) → suc l < S.window_size → Near binary64 (step (suc l)) (pos64 (f_at S (suc (suc l)))) (pos64 (f_at S (suc l))) half
  step_near l h =
      let x = ranged (suc l) h in
      let y = ranged l (omega arith) in
      let xl = x.low in
      let yl = y.low in
      near_as (count_sub 20 (lit≤ tt) (near_self x.ok) y.ok (omega (arith, x.high)) (omega (arith, y.high))) (omega arith) (omega arith)

  step_number : (l : ℕ) → l < S.window_size → Finite binary64 (step l)
  step_number zero h = (ranged 0 h).ok
  step_number (suc l) h = (step_near l h).ok

  steps_rise : (i d : ℕ) → i + d < S.window_size → T (le (step i) (step (i + d)))
  steps_rise i zero h = let z : i ≡ i + 0 = omega arith in subst (λ (k : ℕ). T (le (step i) (step k))) z (le_self (step_number i (omega arith)))
  steps_rise i (suc d) h =
      let z : suc (i + d) ≡ i + suc d = omega arith in
      subst (λ (k : ℕ). T (le (step i) (step k))) z
      (le_trans (step i) (step (i + d)) (step (suc (i + d))) (steps_rise i d (omega arith)) (tests (i + d) (omega arith)).1)

  rises : (i j : ℕ) → i ≤ j → j < S.window_size → T (le (step i) (step j))
  rises i j l h =
      let z : i + (j - i) ≡ j = omega arith in
      subst (λ (k : ℕ). T (le (step i) (step k))) z (steps_rise i (j - i) (omega arith))

  pub usual_shape : UsualShape S
  usual_shape = record { ln_rises = ln_rises; f_first = f_first; f_bends = f_bends }
    where
      ln_rises : (c : ℕ) → 0 < c → c < S.window_size → T (le (ln_at S c) (ln_at S (suc c)))
      ln_rises zero some h = absurd (omega arith)
      ln_rises (suc c) some h = (tests c (omega arith)).0

      f_first : (j : ℕ) → 0 < j → j < S.window_size → pos64 (f_at S 1) + pos64 (f_at S j) ≤ pos64 (f_at S (suc j)) + unevenness
      f_first zero some h = absurd (omega arith)
      f_first (suc j) some h =
          let x = ranged 0 (omega arith) in
          let xl = x.low in
          let r = le_near (near_self x.ok) (step_near j h) (rises 0 (suc j) (omega arith) h) in
          omega (arith, unevenness_eps)

      f_bends : (i j : ℕ) → 0 < i → i ≤ j → j < S.window_size → pos64 (f_at S (suc i)) + pos64 (f_at S j) ≤ pos64 (f_at S (suc j)) + pos64 (f_at S i) + unevenness
      f_bends zero j some l h = absurd (omega arith)
      f_bends (suc i) zero some l h = absurd (omega arith)
      f_bends (suc i) (suc j) some l h =
          let r = le_near (step_near i (omega arith)) (step_near j h) (rises (suc i) (suc j) l h) in
          omega (arith, unevenness_eps)

-- f does not fall, up to 2^-31.
pub f_rises : {S : Setup} → UsualShape S → (a : ℕ) → 0 < a → a < S.window_size → pos64 (f_at S a) ≤ pos64 (f_at S (suc a)) + unevenness
f_rises shape a some h = omega (arith, shape.f_first a some h)

-- Of k places more, f grows the more the longer.
pub f_widens : {S : Setup} → UsualShape S → (a b k : ℕ) → 0 < a → a ≤ b → b + k ≤ S.window_size → pos64 (f_at S (a + k)) + pos64 (f_at S b) ≤ pos64 (f_at S (b + k)) + pos64 (f_at S a) + k * unevenness
f_widens {S} shape a b zero some l h =
    let x : a ≡ a + 0 = omega arith in
    let y : b ≡ b + 0 = omega arith in
    subst (λ (m : ℕ). pos64 (f_at S m) + pos64 (f_at S b) ≤ pos64 (f_at S (b + 0)) + pos64 (f_at S a) + 0 * unevenness) x
    (subst (λ (m : ℕ). pos64 (f_at S a) + pos64 (f_at S b) ≤ pos64 (f_at S m) + pos64 (f_at S a) + 0 * unevenness) y (omega arith))
f_widens {S} shape a b (suc k) some l h =
    let x : suc (a + k) ≡ a + suc k = omega arith in
    let y : suc (b + k) ≡ b + suc k = omega arith in
    subst (λ (m : ℕ). pos64 (f_at S m) + pos64 (f_at S b) ≤ pos64 (f_at S (b + suc k)) + pos64 (f_at S a) + suc k * unevenness) x
    (subst (λ (m : ℕ). pos64 (f_at S (suc (a + k))) + pos64 (f_at S b) ≤ pos64 (f_at S m) + pos64 (f_at S a) + suc k * unevenness) y
    (omega (arith, f_widens shape a b k some l (omega arith), shape.f_bends (a + k) (b + k) (omega arith) (omega arith) (omega arith))))
