-- The ends at ln 2 = 0.693147180559945309.., ln 10 = 2.302585092994045684.. and ln 65535 = 11.090339630053645944..: their digits are those of printed tables.
-- And how good the table is: 2^-50 in place of 2^-45 would be false.
use Rattle.std.proofs.Common.{ℕ, suc, ◌*◌, ◌^◌, ◌≤◌, lit≤, pos, ◌+ℤ◌, ◌*ℤ◌, ◌≤ℤ◌}
use lib.Ieee.{of_bits, of_fields, of_int, add, sub, mul, div, lt}
use Rattle.floats.specs.Value.{value, magnitude}
use Rattle.floats.specs.Binary64.{one, value64, number}
use Rattle.tables.specs.Countdown.{countdown}
use Rattle.tables.specs.Ln.{ln_step, ln_series, ln_parts, ln_scaled, ln_of}
use Rattle.tables.specs.Series.{term, lower, rest, upper}
use Rattle.tables.specs.Logarithm.{ln_lower, ln_upper}

-- ln n lies between d and d + 1 units of 10^-15
abbrev Digits : ℕ → ℕ → ℕ → Type 0
Digits n e d = (pos (d * one) ≤ℤ (ln_lower 20 n e *ℤ pos (10 ^ 15))) × ((ln_upper 20 n e *ℤ pos (10 ^ 15)) ≤ℤ pos (suc d * one))

ln_2 : Digits 2 1 693147180559945
unfolding ln_lower ln_upper lower upper term rest one
ln_2 = (record { le = tt }, record { le = tt })

ln_10 : Digits 10 3 2302585092994045
unfolding ln_lower ln_upper lower upper term rest one
ln_10 = (record { le = tt }, record { le = tt })

-- 2^e above n
ln_65535 : Digits 65535 16 11090339630053645
unfolding ln_lower ln_upper lower upper term rest one
ln_65535 = (record { le = tt }, record { le = tt })

-- One term and the bound of the rest, 2 / 3 + 1 / 36 = 0.694.., is above ln 2.
one_term : lower 1 3 20 ≤ upper 1 3 1
unfolding lower upper term rest one
one_term = lit≤ tt

-- Entry 5,445 is 2^-50 or more below the lower end, and so below ln 5445.
below_5445 : (value64 (ln_of (number 5445)) +ℤ pos (2 ^ 1024)) ≤ℤ ln_lower 20 5445 12
unfolding ln_lower lower upper term rest one value magnitude ln_of ln_scaled ln_parts ln_series ln_step countdown of_bits of_fields of_int add sub mul div lt
below_5445 = record { le = tt }
