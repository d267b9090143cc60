-- Worked examples: k = 2, w = 4, T = 2, ln[1..4] = 1 4 5 6, f[1..4] = 1. The entries 0 of both tables are 9, to be left out.
use Rattle.std.proofs.Common.{◌≡◌, refl, List, [], ◌∷◌, ℕ, ◌^◌, pos, negsuc}
use Rattle.checks.specs.Tests.{any_byte}
use Rattle.letters.specs.Code.{code, codes}
use Rattle.letters.specs.Place.{packed, all_plain, place_at, places_from, places}
use Rattle.scans.specs.Score.{ln_sum, ln_sums}
use Rattle.strongest.specs.Strongest.{Asked, steps, score_at, best_of, start, best_score, largest, gap_over, gap}
use Rattle.strongest.specs.Before.{shorter_of, start_before}
use Rattle.strongest.specs.Checks.{too_short_of, too_wide, refusal}
use Rattle.strongest.specs.Call.{asked}

abbrev ln : List ℕ
ln = 9 ∷ 1 ∷ 4 ∷ 5 ∷ 6 ∷ []

abbrev f : List ℕ
f = 9 ∷ 1 ∷ 1 ∷ 1 ∷ 1 ∷ 9 ∷ []

-- AAAAC at place 3: of 1 to 4 places the scores are -2, 0, 3 and 1.
abbrev aaaac : ℕ → ℕ → Asked
aaaac place budget = asked (65 ∷ 65 ∷ 65 ∷ 65 ∷ 67 ∷ []) 2 4 place budget 2 ln f

whole_search : (start (aaaac 3 9) ≡ 1) × (best_score (aaaac 3 9) ≡ pos 3) × (steps (aaaac 3 9) ≡ 4) × (gap (aaaac 3 9) ≡ 0)
unfolding code codes packed all_plain place_at places_from places ln_sum ln_sums score_at best_of largest gap_over
whole_search = (refl, refl, refl, refl)

-- Two steps miss the best by 3; the gap is 1 + 2 * (6 - 2) - 0.
two_steps : (start (aaaac 3 2) ≡ 2) × (best_score (aaaac 3 2) ≡ pos 0) × (steps (aaaac 3 2) ≡ 2) × (gap (aaaac 3 2) ≡ 9)
unfolding code codes packed all_plain place_at places_from places ln_sum ln_sums score_at best_of largest gap_over
two_steps = (refl, refl, refl, refl)

-- Place 0 is ambiguous, and the best score is below 0.
first_place : (start (aaaac 0 1) ≡ 0) × (best_score (aaaac 0 1) ≡ negsuc 2) × (steps (aaaac 0 1) ≡ 1) × (gap (aaaac 0 1) ≡ 0)
unfolding code codes packed all_plain place_at places_from places ln_sum ln_sums score_at best_of largest gap_over
first_place = (refl, refl, refl, refl)

-- ACGTA with T = 1 and f = 0: all four stretches score 0, and the longest is the best; it was the shortest before L12.
abbrev tied : Asked
tied = asked (65 ∷ 67 ∷ 71 ∷ 84 ∷ 65 ∷ []) 2 4 4 4 1 ln (9 ∷ 0 ∷ 0 ∷ 0 ∷ 0 ∷ 9 ∷ [])

tie_to_the_longer : (start tied ≡ 1) × (start_before tied ≡ 4) × (best_score tied ≡ pos 0) × (steps tied ≡ 4) × (gap tied ≡ 0)
unfolding code codes packed all_plain place_at places_from places ln_sum ln_sums score_at best_of shorter_of largest gap_over
tie_to_the_longer = (refl, refl, refl, refl, refl)

-- ---- Refusals, with 5 codes and 16 scan counts lent.
taken : refusal (aaaac 3 9) 5 16 ≡ 0
unfolding any_byte too_short_of too_wide largest
taken = refl

-- A scan count too few, before the budget of 0, before place 5, before a T of 2^36.
number_11 : refusal (aaaac 5 0) 5 15 ≡ 11
unfolding any_byte too_short_of too_wide largest
number_11 = refl

number_18 : refusal (aaaac 5 0) 5 16 ≡ 18
unfolding any_byte too_short_of too_wide largest
number_18 = refl

abbrev wide : ℕ → ℕ → List ℕ → List ℕ → Asked
wide place t ln' f' = asked (65 ∷ 65 ∷ 65 ∷ 65 ∷ 67 ∷ []) 2 4 place 1 t ln' f'

number_19 : refusal (wide 5 (2 ^ 36) ln f) 5 16 ≡ 19
unfolding any_byte too_short_of too_wide largest
number_19 = refl

number_20 : refusal (wide 4 (2 ^ 36) ln f) 5 16 ≡ 20
unfolding any_byte too_short_of too_wide largest
number_20 = refl

-- Entries 0 and those past w are not read.
unread_entries : refusal (wide 4 0 (2 ^ 36 ∷ 1 ∷ 1 ∷ 1 ∷ 1 ∷ 2 ^ 36 ∷ []) (2 ^ 52 ∷ 1 ∷ 1 ∷ 1 ∷ 1 ∷ 2 ^ 52 ∷ [])) 5 16 ≡ 0
unfolding any_byte too_short_of too_wide largest
unread_entries = refl

wide_ln : refusal (wide 4 0 (9 ∷ 1 ∷ 1 ∷ 1 ∷ 2 ^ 36 ∷ []) f) 5 16 ≡ 20
unfolding any_byte too_short_of too_wide largest
wide_ln = refl

wide_f : refusal (wide 4 0 ln (9 ∷ 2 ^ 52 ∷ 1 ∷ 1 ∷ 1 ∷ 9 ∷ [])) 5 16 ≡ 20
unfolding any_byte too_short_of too_wide largest
wide_f = refl
