-- Worked examples of the paper: which refusal comes first, and 0.6 as a float.
use Rattle.std.proofs.Common.{◌≡◌, refl, false, [], ◌∷◌, ℕ, None}
use lib.Ieee.{binary64, of_bits, round}
use Rattle.checks.specs.Tests.{any_byte}
use Rattle.tables.specs.declared.GcOption.TheVariants.{Uniform}
use Rattle.longdust.specs.declared.LongdustOptions.{LongdustOptions}
use Rattle.longdust.specs.declared.Lent.{Lent}
use Rattle.longdust.specs.Options.{threshold06}
use Rattle.longdust.specs.Checks.{refusal}

threshold06_is : threshold06 ≡ round binary64 false 6 10
unfolding of_bits round
threshold06_is = refl

abbrev options : ℕ → ℕ → LongdustOptions
options k w =
    record {
      window_size = w;
      score_threshold = threshold06;
      kmer = k;
      gc = Uniform;
      xdrop = None;
      min_start_cnt = 3;
      approx = false;
      forward_only = false;
    }

-- k = 13 with a byte 200
kmer_first : (b : Lent) → refusal (options 13 5000) (200 ∷ []) b ≡ 1
kmer_first b = refl

-- "AC", k = w = 2
letters_before_window : (b : Lent) → refusal (options 2 2) (65 ∷ 67 ∷ []) b ≡ 3
unfolding any_byte
letters_before_window b = refl

-- The order is by check and not by place: a digit first, a byte 200 later.
high_before_other : (b : Lent) → refusal (options 2 3) (49 ∷ 200 ∷ []) b ≡ 2
unfolding any_byte
high_before_other b = refl

-- "A1", k = 2
other_before_letters : (b : Lent) → refusal (options 2 3) (65 ∷ 49 ∷ []) b ≡ 13
unfolding any_byte
other_before_letters b = refl
