-- Worked examples: k = 1, w = 3, T = 2, ln[1..3] = 1 4 5, f[1..3] = 1; a stretch of three equal letters scores 3, of two 0.
use Rattle.std.proofs.Common.{◌≡◌, ℕ, List, [], ◌∷◌, refl, map, pos}
use Rattle.checks.specs.Tests.{any_byte}
use Rattle.letters.specs.Code.{code, codes}
use Rattle.letters.specs.Place.{packed, all_plain, place_at, places_from, places}
use Rattle.scans.specs.Score.{ln_sum, ln_sums}
use Rattle.intervals.specs.declared.Interval.{Interval}
use Rattle.intervals.specs.Interval.{interval, covered}
use Rattle.intervals.specs.Merge.{backwards}
use Rattle.strongest.specs.Strongest.{largest}
use Rattle.strongest.specs.Checks.{too_short_of, too_wide}
use Rattle.strongest_list.specs.Stretches.{Asked, letters, score, score_in, all_covered, apart_from, best_ending, best_before, strongest}
use Rattle.strongest_list.specs.Checks.{any_bad_region, refusal}
use Rattle.strongest_list.specs.Mirrored.{turned}

abbrev ask : List ℕ → List Interval → ℕ → Asked
ask s regions floor =
    record {
      sequence = s;
      kmer = 1;
      window_size = 3;
      threshold = 2;
      ln = 9 ∷ 1 ∷ 4 ∷ 5 ∷ [];
      f = 9 ∷ 1 ∷ 1 ∷ 1 ∷ 9 ∷ [];
      regions = regions;
      floor = floor;
    }

abbrev list_of : Asked → ℕ → List Interval
list_of A n = map (letters A.kmer) (strongest A n)

-- AAACCC: both score 3; of equal scores and places the earlier is first, and the other touches it: what is left of it, CC, scores 0.
abbrev aaaccc : List ℕ
aaaccc = 65 ∷ 65 ∷ 65 ∷ 67 ∷ 67 ∷ 67 ∷ []

touching : list_of (ask aaaccc (interval 0 6 ∷ []) 0) 2 ≡ interval 0 3 ∷ []
unfolding code codes packed all_plain place_at places_from places ln_sum ln_sums covered score_in all_covered apart_from best_ending best_before strongest
touching = refl

-- AAAGCCC: with a letter between both are entries; N = 1 has the first alone, N = 0 none.
abbrev aaagccc : List ℕ
aaagccc = 65 ∷ 65 ∷ 65 ∷ 71 ∷ 67 ∷ 67 ∷ 67 ∷ []

between : list_of (ask aaagccc (interval 0 7 ∷ []) 0) 3 ≡ interval 0 3 ∷ interval 4 7 ∷ []
unfolding code codes packed all_plain place_at places_from places ln_sum ln_sums covered score_in all_covered apart_from best_ending best_before strongest
between = refl

one_alone : list_of (ask aaagccc (interval 0 7 ∷ []) 0) 1 ≡ interval 0 3 ∷ []
unfolding code codes packed all_plain place_at places_from places ln_sum ln_sums covered score_in all_covered apart_from best_ending best_before strongest
one_alone = refl

-- Over two regions that touch, a stretch may lie in both; with a letter between them it may not.
both_regions : list_of (ask aaaccc (interval 0 2 ∷ interval 2 3 ∷ []) 0) 1 ≡ interval 0 3 ∷ []
unfolding code codes packed all_plain place_at places_from places ln_sum ln_sums covered score_in all_covered apart_from best_ending best_before strongest
both_regions = refl

not_over_a_gap : list_of (ask aaaccc (interval 0 1 ∷ interval 2 6 ∷ []) 0) 1 ≡ interval 3 6 ∷ []
unfolding code codes packed all_plain place_at places_from places ln_sum ln_sums covered score_in all_covered apart_from best_ending best_before strongest
not_over_a_gap = refl

-- A floor of 3 is reached and not exceeded.
floor_reached : list_of (ask aaagccc (interval 0 7 ∷ []) 3) 2 ≡ []
unfolding code codes packed all_plain place_at places_from places ln_sum ln_sums covered score_in all_covered apart_from best_ending best_before strongest
floor_reached = refl

-- Equal scores give the longer: AA scores 1 + 5 - 4 = 2, AAA 1 + 5 + 2 - 6 = 2.
abbrev level : Asked
level = record { sequence = 65 ∷ 65 ∷ 65 ∷ []; kmer = 1; window_size = 3; threshold = 2; ln = 9 ∷ 1 ∷ 5 ∷ 2 ∷ []; f = 9 ∷ 1 ∷ 0 ∷ 0 ∷ 9 ∷ []; regions = interval 0 3 ∷ []; floor = 0 }

the_longer : list_of level 1 ≡ interval 0 3 ∷ []
unfolding code codes packed all_plain place_at places_from places ln_sum ln_sums covered score_in all_covered apart_from best_ending best_before strongest
the_longer = refl

-- Where f falls, the mirror may score otherwise: AAN scores 5 in [0, 2), its reverse complement NTT has only place 2 in [1, 3), which scores 5 - 10.
abbrev falling : Asked
falling = record { sequence = 65 ∷ 65 ∷ 78 ∷ []; kmer = 2; window_size = 3; threshold = 0; ln = 9 ∷ 5 ∷ 5 ∷ 5 ∷ []; f = 9 ∷ 10 ∷ 0 ∷ 0 ∷ 9 ∷ []; regions = interval 0 2 ∷ []; floor = 0 }

there : map (score falling) (strongest falling 1) ≡ pos 5 ∷ []
unfolding code codes packed all_plain place_at places_from places ln_sum ln_sums covered score_in all_covered apart_from best_ending best_before strongest
there = refl

not_in_the_mirror : strongest (turned falling (78 ∷ 84 ∷ 84 ∷ [])) 1 ≡ []
unfolding code codes packed all_plain place_at places_from places ln_sum ln_sums covered score_in all_covered apart_from best_ending best_before strongest backwards
not_in_the_mirror = refl

-- ---- Refusals, with 7 codes, 4 numbers, 4,103 places and a tile lent.
taken : refusal (ask aaagccc (interval 0 7 ∷ []) 0) 7 4 4103 1 ≡ 0
unfolding any_byte too_short_of too_wide largest any_bad_region
taken = refl

-- A region that ends past the letters, and one that is empty, before a short buffer.
number_16 : refusal (ask aaagccc (interval 0 7 ∷ interval 3 8 ∷ []) 0) 6 4 4103 1 ≡ 16
unfolding any_byte too_short_of too_wide largest any_bad_region
number_16 = refl

number_16_empty : refusal (ask aaagccc (interval 3 3 ∷ []) 0) 7 4 4103 1 ≡ 16
unfolding any_byte too_short_of too_wide largest any_bad_region
number_16_empty = refl

number_11 : refusal (ask aaagccc (interval 0 7 ∷ []) 0) 6 4 4103 1 ≡ 11
unfolding any_byte too_short_of too_wide largest any_bad_region
number_11 = refl
