-- Worked examples: bytes, and the order of refusals at the profile's bounds.
use Rattle.std.proofs.Common.{◌≡◌, refl, false, List, [], ◌∷◌, ℕ, Some}
use lib.Ieee.{of_bits, lt}
use Rattle.checks.specs.Tests.{any_byte, threshold_bad}
use Rattle.intervals.specs.Interval.{interval}
use Rattle.tables.specs.declared.GcOption.TheVariants.{Uniform}
use Rattle.longdust.specs.declared.LongdustOptions.{LongdustOptions}
use Rattle.longdust.specs.Options.{threshold06}
use Rattle.longdust.specs.Checks.{xdrop_bad}
use Rattle.small.specs.Profile.{not_uniform, outside, refusal}
use Rattle.small.specs.Bytes.{bytes_of}

-- 0 to 20 and 300 to 4,096.
two_intervals : bytes_of (interval 0 20 ∷ interval 300 4096 ∷ []) ≡ 0 ∷ 0 ∷ 0 ∷ 0 ∷ 20 ∷ 0 ∷ 0 ∷ 0 ∷ 44 ∷ 1 ∷ 0 ∷ 0 ∷ 0 ∷ 16 ∷ 0 ∷ 0 ∷ []
unfolding bytes_of
two_intervals = refl

options : ℕ → ℕ → ℕ → LongdustOptions
options k w xdrop =
    record {
      window_size = w;
      score_threshold = threshold06;
      kmer = k;
      gc = Uniform;
      xdrop = Some xdrop;
      min_start_cnt = 3;
      approx = false;
      forward_only = false;
    }

-- AAAAAAAA
letters : List ℕ
letters = 65 ∷ 65 ∷ 65 ∷ 65 ∷ 65 ∷ 65 ∷ 65 ∷ 65 ∷ []

-- The largest k and w, with an output of 8 R bytes; R is 1.
inside : refusal (options 6 4096 50) letters 8 ≡ 0
unfolding outside not_uniform xdrop_bad threshold_bad any_byte options letters lt of_bits
inside = refl

too_short : refusal (options 6 4096 50) letters 7 ≡ 11
unfolding outside not_uniform xdrop_bad threshold_bad any_byte options letters lt of_bits
too_short = refl

-- One past each bound; 9 comes before 21, and 21 before 11.
kmer_outside_lem : refusal (options 7 4096 50) letters 0 ≡ 21
unfolding outside not_uniform xdrop_bad threshold_bad any_byte options letters lt of_bits
kmer_outside_lem = refl

window_outside : refusal (options 6 4097 50) letters 8 ≡ 21
unfolding outside not_uniform xdrop_bad threshold_bad any_byte options letters lt of_bits
window_outside = refl

xdrop_first : refusal (options 7 4096 0) letters 8 ≡ 9
unfolding outside not_uniform xdrop_bad threshold_bad any_byte options letters lt of_bits
xdrop_first = refl
