-- Worked examples.
use Rattle.std.proofs.Common.{◌≡◌, refl, [], ◌∷◌, take}
use mathlib.Core.List.{flat_map}
use Rattle.buffers.specs.Fill.{tabulate, tabulate_from}
use Rattle.checks.specs.Tests.{any_byte, threshold_bad}
use Rattle.longdust.specs.Options.{defaults}
use Rattle.longdust.specs.Checks.{gc_bad, xdrop_bad, too_short_of}
use Rattle.short_sequences.specs.Sequences.{sequences_of}
use Rattle.short_sequences.specs.Tallies.{short_options, refusal_of, is_refused, leads_to, passing, tallies_of, refused_of}
use Rattle.short_sequences.specs.Tallies.{refusal as tally_refusal}

-- AA AC AG AT AN CA
first_six : take 6 (sequences_of 2) ≡ (65 ∷ 65 ∷ []) ∷ (65 ∷ 67 ∷ []) ∷ (65 ∷ 71 ∷ []) ∷ (65 ∷ 84 ∷ []) ∷ (65 ∷ 78 ∷ []) ∷ (67 ∷ 65 ∷ []) ∷ []
unfolding sequences_of flat_map
first_six = refl

-- Of one letter all five are refused.
one_letter : refused_of 1 ≡ 5
unfolding refused_of passing is_refused refusal_of short_options defaults any_byte threshold_bad gc_bad xdrop_bad too_short_of sequences_of flat_map
one_letter = refl

no_letter_tallied : tallies_of 1 ≡ 0 ∷ 0 ∷ []
unfolding tallies_of tabulate tabulate_from leads_to passing is_refused refusal_of short_options defaults any_byte threshold_bad gc_bad xdrop_bad too_short_of sequences_of flat_map
no_letter_tallied = refl

-- A size of 9 is refused with 22, also where there is no room; a size of 2 with two entries with 11.
number_22 : tally_refusal 9 [] ≡ 22
number_22 = refl

number_11 : tally_refusal 2 (0 ∷ 0 ∷ []) ≡ 11
number_11 = refl
