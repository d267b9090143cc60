-- The constants that the definitions give by their bits are the numbers that they say they are, each rounded once.
use Rattle.std.proofs.Common.{◌≡◌, ℕ, ◌^◌, false, refl, Float}
use lib.Ieee.{binary64, round, of_bits, of_int}
use Rattle.floats.specs.Binary64.{number}
use Rattle.tables.specs.Ln.{twenty_one, ln2, root2}
use Rattle.tables.specs.Exp.{inv_e}
use Rattle.tables.specs.F.{epsilon, twelve, nineteen, thirty, pi, euler}

-- n / 10^d, rounded once
abbrev decimal : ℕ → ℕ → Float
decimal n d = round binary64 false n (10 ^ d)

twenty_one_is : twenty_one ≡ number 21
unfolding of_bits of_int
twenty_one_is = refl

ln2_is : ln2 ≡ decimal 6931471805599453 16
unfolding of_bits round
ln2_is = refl

root2_is : root2 ≡ decimal 14142135623730951 16
unfolding of_bits round
root2_is = refl

inv_e_is : inv_e ≡ decimal 36787944117144233 17
unfolding of_bits round
inv_e_is = refl

epsilon_is : epsilon ≡ round binary64 false 1 (2 ^ 52)
unfolding of_bits round
epsilon_is = refl

twelve_is : twelve ≡ number 12
unfolding of_bits of_int
twelve_is = refl

nineteen_is : nineteen ≡ number 19
unfolding of_bits of_int
nineteen_is = refl

thirty_is : thirty ≡ number 30
unfolding of_bits of_int
thirty_is = refl

pi_is : pi ≡ decimal 3141592653589793238462643383 27
unfolding of_bits round
pi_is = refl

euler_is : euler ≡ decimal 2718281828459045235360287471 27
unfolding of_bits round
euler_is = refl
