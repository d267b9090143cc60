-- The loop that takes 1 off v, at most 30 times: its turn and its end.
use Rattle.std.proofs.Common.{◌≡◌, ℕ, zero, suc, ◌+◌, ◌-◌, ◌<◌, Bool, true, false, ◌&&◌, ltb, refl, add-one, arith, ltb-false, ltb-true, Float}
use lib.Ieee.{le}
use Rattle.floats.specs.Arithmetic.{◌⊖◌}
use Rattle.floats.specs.Binary64.{one64}
use Rattle.tables.specs.Exp.{inv_e, times, exp_series, exp_from}

taken_off : (p m a : ℕ) (v : Float) → p ≡ suc m → le one64 v ≡ true → exp_from m (a + 1) (v ⊖ one64) ≡ exp_from p a v
unfolding exp_from
taken_off p m a v e t = rw (e, t, add-one a)

below_one : (p a : ℕ) (v : Float) → le one64 v ≡ false → times a inv_e (exp_series v) ≡ exp_from p a v
unfolding exp_from
below_one zero a v t = refl
below_one (suc p) a v t = rw t

no_more : (p a : ℕ) (v : Float) → p ≡ 0 → times a inv_e (exp_series v) ≡ exp_from p a v
unfolding exp_from
no_more p a v e = rw e

pub again : (a : ℕ) (v : Float) → (ltb a 30 && le one64 v) ≡ true → (a < 30) × (exp_from (30 - (a + 1)) (a + 1) (v ⊖ one64) ≡ exp_from (30 - a) a v)
again a v h = go (ltb a 30) refl h
  where
    go : (b : Bool) → ltb a 30 ≡ b → (b && le one64 v) ≡ true → (a < 30) × (exp_from (30 - (a + 1)) (a + 1) (v ⊖ one64) ≡ exp_from (30 - a) a v)
    go true e t = let l = ltb-true a 30 e in (l, taken_off (30 - a) (30 - (a + 1)) a v (omega arith) t)
    go false e t = absurd (let z : ◌≡◌ {A = ℕ} 0 1 = cc in let b : ⊥ = omega arith in b)

pub over : (a : ℕ) (v : Float) → (ltb a 30 && le one64 v) ≡ false → times a inv_e (exp_series v) ≡ exp_from (30 - a) a v
over a v h = go (ltb a 30) refl h
  where
    go : (b : Bool) → ltb a 30 ≡ b → (b && le one64 v) ≡ false → times a inv_e (exp_series v) ≡ exp_from (30 - a) a v
    go true e t = below_one (30 - a) a v t
    go false e t = let l = ltb-false a 30 e in no_more (30 - a) a v (omega arith)

-- The laws by which `exp_neg` is proved.
pub ruleset exp_loop = (again, over)
