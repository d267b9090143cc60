-- Closed cases of the formulas; the bits are those of a Rust program with the same formulas.
use Rattle.std.proofs.Common.{◌≡◌, true, [], ◌∷◌, refl, Float}
use lib.Ieee.{inf, binary64, add, sub, mul, div, lt, le, eq, of_bits, of_int}
use Rattle.buffers.specs.Fill.{tabulate, tabulate_from}
use Rattle.floats.specs.Binary64.{number, zero64, one64}
use Rattle.letters.specs.Gc.{gc_of}
use Rattle.tables.specs.declared.GcOption.TheVariants.{Auto}
use Rattle.tables.specs.Countdown.{countdown}
use Rattle.tables.specs.Ln.{ln_step, ln_series, ln_parts, ln_scaled, ln_of}
use Rattle.tables.specs.Exp.{times, powi, exp_step, exp_series, exp_from, exp_neg}
use Rattle.tables.specs.Density.{thirteen, uniform, by_gc, density}
use Rattle.tables.specs.F.{terms_from, terms, stirlings_approx, f_large, f_class, classes_from, f_of}

ln_0 : ln_of zero64 ≡ inf true
unfolding of_bits ln_of
ln_0 = refl

ln_1 : ln_of (number 1) ≡ zero64
unfolding of_bits of_int add sub mul div lt countdown ln_step ln_series ln_parts ln_scaled ln_of
ln_1 = refl

ln_3 : ln_of (number 3) ≡ of_bits binary64 0x3ff1_93ea_7aad_030a
unfolding of_bits of_int add sub mul div lt countdown ln_step ln_series ln_parts ln_scaled ln_of
ln_3 = refl

-- the smallest positive float
ln_least : ln_of (of_bits binary64 1) ≡ of_bits binary64 0xc087_4385_446d_71c3
unfolding of_bits of_int add sub mul div lt countdown ln_step ln_series ln_parts ln_scaled ln_of
ln_least = refl

powi_0 : (x : Float) → powi x 0 ≡ one64
unfolding powi times countdown
powi_0 x = refl

exp_0 : exp_neg zero64 ≡ one64
unfolding of_bits of_int sub mul div lt le eq countdown times exp_step exp_series exp_from exp_neg
exp_0 = refl

-- no letter A, C, G or T
no_letters : density 7 Auto (4 ∷ 4 ∷ []) ≡ by_gc 7 zero64
unfolding density gc_of
no_letters = refl

-- k = 1, length 5
f_5 : f_of 1 (uniform 1) 5 ≡ of_bits binary64 0x3ffd_9b28_b0cb_a719
unfolding of_bits of_int add sub mul div lt le eq countdown ln_step ln_series ln_parts ln_scaled ln_of times exp_step exp_series exp_from exp_neg tabulate tabulate_from thirteen uniform terms_from terms stirlings_approx f_large f_class classes_from f_of
f_5 = refl
