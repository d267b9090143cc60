-- The turns and ends of the loops that count down.
use Rattle.std.proofs.Common.{◌≡◌, ℕ, suc, ◌+◌, ◌*◌, add-one, Float}
use Rattle.floats.specs.Arithmetic.{◌⊕◌, ◌⊖◌, ◌⊗◌, ◌⊘◌}
use Rattle.floats.specs.Binary64.{number, one64}
use Rattle.tables.specs.Countdown.{countdown}
use Rattle.tables.specs.Exp.{times, exp_step}
use Rattle.tables.specs.Ln.{ln_step}

pub times_turn : (m p : ℕ) (b y : Float) → p ≡ suc m → times m b (y ⊗ b) ≡ times p b y
unfolding times countdown
times_turn m p b y e = rw e

pub times_end : (p : ℕ) (b y : Float) → p ≡ 0 → y ≡ times p b y
unfolding times countdown
times_end p b y e = rw e

pub exp_turn : (m p : ℕ) (v h : Float) → p ≡ suc m → countdown (exp_step v) m (one64 ⊖ v ⊘ number p ⊗ h) ≡ countdown (exp_step v) p h
unfolding countdown exp_step
exp_turn m p v h e = rw (e, add-one m)

pub ln_turn : (m p : ℕ) (q h : Float) → p ≡ suc m → countdown (ln_step q) m (h ⊗ q ⊕ one64 ⊘ number (2 * m + 1)) ≡ countdown (ln_step q) p h
unfolding countdown ln_step
ln_turn m p q h e = rw e

pub exp_end : (p : ℕ) (v h : Float) → p ≡ 0 → h ≡ countdown (exp_step v) p h
unfolding countdown
exp_end p v h e = rw e

pub ln_end : (p : ℕ) (q h : Float) → p ≡ 0 → h ≡ countdown (ln_step q) p h
unfolding countdown
ln_end p q h e = rw e

-- The laws by which `series`, `times` are proved.
pub ruleset countdowns = (times_turn, times_end, exp_turn, exp_end, ln_turn, ln_end)
