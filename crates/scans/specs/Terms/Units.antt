-- Terms of contracts and laws: an exact score as gain - loss, naturals in units of 2^-1074, and what exact scores must be apart so that their floats compare as they do.
use Rattle.std.specs.Prelude.{List, ℕ, ◌+◌, ◌*◌, ◌^◌, nat_abs, Float}
use Rattle.std.specs.Float.{binary64}
use Rattle.std.specs.Float.Ieee.{of_bits}
use Rattle.floats.specs.Terms.Rounded.{pos64}
use Rattle.letters.specs.Place.{Place}
use Rattle.scans.specs.Setup.{Setup, f_at, kmers}
use Rattle.scans.specs.Score.{ln_sums, ln_value}

-- 2^-12, in units.
unfoldable pub margin : ℕ
margin = 2 ^ 1062

-- 2^-10, as a float: what the code asks for where the margin is wanted, so that 3/4 of it are left for its own roundings.
abbrev pub distance : Float
distance = of_bits binary64 0x3f50_0000_0000_0000

-- 2^-31, by which differences of f may fall: four times what the roundings of two differences, compared as floats, come to.
unfoldable pub unevenness : ℕ
unevenness = 2 ^ 1043

-- The sum over k-mers.
unfoldable pub gain : Setup → List Place → ℕ
gain S q = nat_abs (ln_sums (ln_value S) (kmers S) q)

-- L times T, and f entry L.
abbrev pub loss : Setup → ℕ → ℕ
loss S l = l * pos64 S.score_threshold + pos64 (f_at S l)
