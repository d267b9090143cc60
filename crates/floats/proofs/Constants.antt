-- The floats that specs/Binary64.antt gives by their bits are the numbers that it says they are.
use Rattle.std.proofs.Common.{◌≡◌, ◌^◌, false, refl}
use lib.Ieee.{binary64, of_bits, of_int, round}
use Rattle.floats.specs.Binary64.{number, zero64, half64, one64, two64, tiny, slack, sixteen, two_to20}

pub zero64_is : zero64 ≡ number 0
unfolding of_bits of_int
zero64_is = refl

half64_is : half64 ≡ round binary64 false 1 2
unfolding of_bits round
half64_is = refl

pub one64_is : one64 ≡ number 1
unfolding of_bits of_int
one64_is = refl

pub two64_is : two64 ≡ number 2
unfolding of_bits of_int
two64_is = refl

tiny_is : tiny ≡ round binary64 false 1 (10 ^ 9)
unfolding of_bits round
tiny_is = refl

slack_is : slack ≡ round binary64 false 1 (10 ^ 6)
unfolding of_bits round
slack_is = refl

pub sixteen_is : sixteen ≡ number 16
unfolding of_bits of_int
sixteen_is = refl

pub two_to20_is : two_to20 ≡ number 1048576
unfolding of_bits of_int
two_to20_is = refl
