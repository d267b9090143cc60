-- The series of the logarithm in whole numbers. For a fraction z = p / q, at least 0 and below 1,
--     ln ((1 + z) / (1 - z)) = 2 z + 2 z^3 / 3 + 2 z^5 / 5 + ..
-- since both sides are 0 at z = 0 and have the same derivative, 2 / (1 - z^2) = 2 + 2 z^2 + 2 z^4 + .., a geometric series, which may be integrated term by term.
-- No term is below 0, and each is at most z^2 times the one before it. So what is left after k terms is at least 0, and at most the next term times 1 + z^2 + z^4 + .. = q^2 / (q^2 - p^2).
-- Numbers are counted in units of 2^-1074, those of `value64`: 1 is `one` of them.
use Rattle.std.specs.Prelude.{ℕ, zero, suc, ◌+◌, ◌-◌, ◌*◌, ◌/◌, ◌^◌}
use Rattle.floats.specs.Binary64.{one}

-- Term i, from 0 on: 2 z^(2i + 1) / (2i + 1), rounded down.
unfoldable pub term : ℕ → ℕ → ℕ → ℕ
term p q i = 2 * one * p ^ (2 * i + 1) / ((2 * i + 1) * q ^ (2 * i + 1))

-- The first k terms, each rounded down: at most the logarithm, and short of the k terms by at most k.
unfoldable pub lower : ℕ → ℕ → ℕ → ℕ
lower p q zero = 0
lower p q (suc i) = lower p q i + term p q i

-- At least what is left after k terms: the next term times q^2 / (q^2 - p^2), rounded up.
unfoldable pub rest : ℕ → ℕ → ℕ → ℕ
rest p q k = 2 * one * p ^ (2 * k + 1) * (q * q) / ((2 * k + 1) * q ^ (2 * k + 1) * (q * q - p * p)) + 1

-- At least the logarithm.
unfoldable pub upper : ℕ → ℕ → ℕ → ℕ
upper p q k = lower p q k + k + rest p q k

-- The first k terms exactly, as a fraction: total / over, here in the number 1 as unit.
unfoldable pub over : ℕ → ℕ → ℕ
over q zero = 1
over q (suc i) = over q i * ((2 * i + 1) * q ^ (2 * i + 1))

unfoldable pub total : ℕ → ℕ → ℕ → ℕ
total p q zero = 0
total p q (suc i) = total p q i * ((2 * i + 1) * q ^ (2 * i + 1)) + 2 * p ^ (2 * i + 1) * over q i
