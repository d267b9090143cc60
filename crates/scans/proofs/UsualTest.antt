-- The test whether the tables are of the usual shape, an entry at a time.
use Rattle.std.proofs.Common.{◌≡◌, refl, ap, ◌∙◌, ℕ, zero, suc, ◌+◌, ◌-◌, ◌≤◌, Bool, true, ◌&&◌, List, get_or, Float, arith, add-one}
use lib.Ieee.{nan, le}
use Rattle.floats.specs.Arithmetic.{◌⊖◌}
use Rattle.scans.specs.Terms.Shape.{f_step, usual_to}

pub usual_start : (ln f : List Float) → true ≡ usual_to ln f (1 - 1)
unfolding usual_to
usual_start ln f = refl

pub usual_turn : (ln f : List Float) (m : ℕ) (ok : Bool) (step : Float) → 1 ≤ m → ok ≡ usual_to ln f (m - 1) → step ≡ f_step f (m - 1)
    → ok && (le (get_or ln m nan) (get_or ln (m + 1) nan) && le step (get_or f (m + 1) nan ⊖ get_or f m nan)) ≡ usual_to ln f (m + 1 - 1)
unfolding usual_to
usual_turn ln f zero ok step h a b = absurd (omega arith)
usual_turn ln f (suc n) ok step h a b =
    let e : suc n - 1 ≡ n = omega arith in
    let k : suc n + 1 - 1 ≡ suc n = omega arith in
    rw (a, b, e, k, add-one (suc n))

pub step_turn : (f : List Float) (m : ℕ) → 1 ≤ m → get_or f (m + 1) nan ⊖ get_or f m nan ≡ f_step f (m + 1 - 1)
step_turn f zero h = absurd (omega arith)
step_turn f (suc n) h =
    let k : suc n + 1 - 1 ≡ suc n = omega arith in
    rw (k, add-one (suc n))

pub usual_end : (ln f : List Float) (w m : ℕ) (ok : Bool) → ok ≡ usual_to ln f (m - 1) → m ≤ w → w ≤ m → ok ≡ usual_to ln f (w - 1)
usual_end ln f w m ok e a b =
    let same : m - 1 ≡ w - 1 = omega arith in
    e ∙ ap (λ (n : ℕ). usual_to ln f n) same

pub ruleset of_usual = (usual_start, usual_turn, step_turn, usual_end)
