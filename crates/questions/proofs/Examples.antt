-- L8's answers, worked on a list of three intervals in 40 letters.
use Rattle.std.proofs.Common.{◌≡◌, refl, ℕ, List, [], ◌∷◌}
use Rattle.buffers.specs.Fill.{tabulate, tabulate_from}
use Rattle.intervals.specs.declared.Interval.{Interval}
use Rattle.intervals.specs.Interval.{interval, covered, covered_in, usual_from}
use Rattle.questions.specs.Answers.{answer, none, nearest_index, nearest, indices, all_that, within, partly, share}
use Rattle.questions.specs.declared.Question.{Question}
use Rattle.questions.specs.Batch.{refusal, summary_of}

abbrev question : ℕ → ℕ → ℕ → Question
question kind a b = record { kind = kind; from = a; to = b }

abbrev three : List Interval
three = interval 4 8 ∷ interval 10 11 ∷ interval 20 30 ∷ []

covered_is_0 : nearest 5 three ≡ answer 0 0
unfolding nearest nearest_index
covered_is_0 = refl

adjacent_is_0 : nearest 11 three ≡ answer 1 0
unfolding nearest nearest_index
adjacent_is_0 = refl

-- Letter 9 is adjacent to the second; letter 15 has 4 letters on either side.
the_nearer : nearest 9 three ≡ answer 1 0
unfolding nearest nearest_index
the_nearer = refl

equal_gives_left : nearest 15 three ≡ answer 1 4
unfolding nearest nearest_index
equal_gives_left = refl

empty_gives_none : nearest 15 [] ≡ none
unfolding nearest
empty_gives_none = refl

-- An interval that ends at the range's end is within; one that begins before it is not.
within_bounds : all_that (within 5 11) three ≡ answer 1 1
unfolding indices
within_bounds = refl

within_all : all_that (within 4 30) three ≡ answer 0 3
unfolding indices
within_all = refl

within_none : all_that (within 5 10) three ≡ none
unfolding indices
within_none = refl

both_ends : all_that (partly 6 25) three ≡ answer 0 2
unfolding indices
both_ends = refl

-- An interval that holds the whole range.
holds_range : all_that (partly 21 22) three ≡ answer 2 1
unfolding indices
holds_range = refl

-- Letters 6, 7 and 10 of 7: 30000 = 4285 * 7 + 5.
share_and_rest : share 6 13 three ≡ answer 4285 5
unfolding share covered_in covered
share_and_rest = refl

one_block : summary_of 40 three ≡ 15 ∷ []
unfolding tabulate tabulate_from covered_in covered
one_block = refl

-- A touching list, before a short buffer; a short buffer, before a bad question.
touching_refused : refusal 40 (interval 4 8 ∷ interval 8 9 ∷ []) [] 0 0 ≡ 16
unfolding usual_from
touching_refused = refl

short_refused : refusal 40 three (question 0 40 0 ∷ []) 1 0 ≡ 11
unfolding usual_from
short_refused = refl

past_refused : refusal 40 three (question 3 0 40 ∷ question 0 40 0 ∷ []) 1 2 ≡ 17
unfolding usual_from
past_refused = refl

accepted : refusal 40 three (question 3 0 40 ∷ question 0 39 0 ∷ []) 1 2 ≡ 0
unfolding usual_from
accepted = refl
