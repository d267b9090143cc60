-- The paper's example of an exact score: "AAAA", k = 2, ln[1..3] = 0 1 2, f = 0, T = 0.5: places 1..3 score 1.5.
use Rattle.std.proofs.Common.{◌≡◌, refl, ◌*◌, ◌^◌, false, List, [], ◌∷◌, take, pos, ◌+ℤ◌}
use lib.Ieee.{binary64, of_bits, of_fields, of_int, add, sub, neg, lt, le}
use Rattle.floats.specs.Value.{value, magnitude}
use Rattle.floats.specs.Binary64.{number, zero64, half64}
use Rattle.letters.specs.Code.{code, codes}
use Rattle.letters.specs.Place.{Place, plain, packed, all_plain, place_at, places_from, places}
use Rattle.scans.specs.Setup.{Setup}
use Rattle.scans.specs.Scans.{at, backward_from, forward_from, dust_forward, try_from, tried, dust_backward}
use Rattle.scans.specs.Score.{ln_sum, ln_sums, score, stretch}

abbrev setup : Setup
setup =
    record {
      kmer = 2;
      window_size = 3;
      score_threshold = half64;
      min_start_cnt = 2;
      drop_limit = zero64;
      approx = false;
      max_test = pos 0;
      ln = number 0 ∷ number 0 ∷ number 1 ∷ number 2 ∷ [];
      f = number 0 ∷ number 0 ∷ number 0 ∷ number 0 ∷ number 0 ∷ [];
    }

-- In units of 2^-1074. The byte A is 65.
score_aaaa : score setup (stretch (places 2 (codes (65 ∷ 65 ∷ 65 ∷ 65 ∷ []))) 1 3) ≡ pos (3 * 2 ^ 1073)
unfolding code codes packed all_plain place_at places_from places score ln_sum ln_sums value magnitude of_bits of_fields of_int
score_aaaa = refl

-- Why a find may be worse than a shorter stretch by its errors: f[2] = 2^-60 is lost in 0.5 - f[2], so that two places tie with the first alone, and the tie goes to the later.
abbrev pub tied : Setup
tied =
    record {
      kmer = 1;
      window_size = 2;
      score_threshold = half64;
      min_start_cnt = 2;
      drop_limit = number 1;
      approx = false;
      max_test = pos 0;
      ln = number 0 ∷ number 1 ∷ half64 ∷ [];
      f = number 0 ∷ number 0 ∷ of_bits binary64 0x3c30_0000_0000_0000 ∷ number 0 ∷ [];
    }

abbrev pub twice : List Place
twice = plain 0 ∷ plain 0 ∷ []

tied_found : (dust_backward tied twice).find ≡ at 0
unfolding dust_backward backward_from tried try_from dust_forward forward_from of_bits of_fields of_int add sub lt le neg
tied_found = refl

shorter_better : score tied (take 1 twice) ≡ score tied twice +ℤ pos (2 ^ 1014)
unfolding score ln_sum ln_sums value magnitude of_bits of_fields of_int
shorter_better = refl
