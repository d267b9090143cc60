-- The paper, 'Tables and the program': exp(-v) and powi.
use Rattle.std.specs.Prelude.{ℕ, zero, suc, ◌+◌, cond, from_bits, Float}
use Rattle.std.specs.Float.{binary64}
use Rattle.std.specs.Float.Ieee.{le}
use Rattle.floats.specs.Arithmetic.{◌⊖◌, ◌⊗◌, ◌⊘◌}
use Rattle.floats.specs.Binary64.{number, one64}
use Rattle.tables.specs.Countdown.{countdown}

-- 0.36787944117144233
abbrev pub inv_e : Float
inv_e = from_bits binary64 0x3fd7_8b56_362c_ef38

-- x multiplied n times by b
unfoldable pub times : ℕ → Float → Float → Float
times n b x = countdown (λ j y. y ⊗ b) n x

-- 1.0 times the base, repeated
unfoldable pub powi : Float → ℕ → Float
powi b n = times n b one64

-- h = 1 - (v/d) times h
unfoldable pub exp_step : Float → ℕ → Float → Float
exp_step v j h = one64 ⊖ v ⊘ number (j + 1) ⊗ h

-- h = 1; for d = 20 down to 1
unfoldable pub exp_series : Float → Float
exp_series v = countdown (exp_step v) 20 one64

-- 1 is subtracted while v >= 1, at most n times more, and was a times.
unfoldable pub exp_from : ℕ → ℕ → Float → Float
exp_from zero a v = times a inv_e (exp_series v)
exp_from (suc n) a v = cond (le one64 v) (exp_from n (suc a) (v ⊖ one64)) (times a inv_e (exp_series v))

-- exp(-v). For 0 <= v < 30 fewer than 30 subtractions are due; from 30 on, where the paper is silent, 30 are made.
unfoldable pub exp_neg : Float → Float
exp_neg v = exp_from 30 0 v
