-- Worked examples: ACGTN-7 and a byte of 200, with the list 6 to 9, 1 to 3, 2 to 4, 5 to 5, 4 to 2.
use Rattle.std.proofs.Common.{◌≡◌, refl, List, [], ◌∷◌, ℕ}
use Rattle.buffers.specs.Fill.{tabulate, tabulate_from}
use Rattle.intervals.specs.declared.Interval.{Interval}
use Rattle.intervals.specs.Interval.{interval, covered}
use Rattle.masked_copy.specs.declared.Masking.TheVariants.{LowerCase, Replace}
use Rattle.masked_copy.specs.Copy.{lower, copy_of, replacement_bad, refusal}

letters : List ℕ
letters = 65 ∷ 67 ∷ 71 ∷ 84 ∷ 78 ∷ 45 ∷ 55 ∷ 200 ∷ []

mask : List Interval
mask = interval 6 9 ∷ interval 1 3 ∷ interval 2 4 ∷ interval 5 5 ∷ interval 4 2 ∷ []

-- AcgtN-7 and the byte of 200
in_lower_case : copy_of LowerCase mask letters ≡ 65 ∷ 99 ∷ 103 ∷ 116 ∷ 78 ∷ 45 ∷ 55 ∷ 200 ∷ []
unfolding letters mask copy_of tabulate tabulate_from covered lower
in_lower_case = refl

-- ANNNN-NN
by_N : copy_of (Replace 78) mask letters ≡ 65 ∷ 78 ∷ 78 ∷ 78 ∷ 78 ∷ 45 ∷ 78 ∷ 78 ∷ []
unfolding letters mask copy_of tabulate tabulate_from covered
by_N = refl

-- AXXXN-XX
by_X : copy_of (Replace 88) mask letters ≡ 65 ∷ 88 ∷ 88 ∷ 88 ∷ 78 ∷ 45 ∷ 88 ∷ 88 ∷ []
unfolding letters mask copy_of tabulate tabulate_from covered
by_X = refl

no_letters : copy_of LowerCase mask [] ≡ []
unfolding copy_of tabulate tabulate_from
no_letters = refl

-- A replacement n is refused, also where the buffer is too short.
number_12 : refusal (Replace 110) letters [] ≡ 12
unfolding replacement_bad
number_12 = refl

number_11 : refusal (Replace 78) letters (0 ∷ []) ≡ 11
unfolding replacement_bad letters
number_11 = refl

no_letters_taken : refusal LowerCase [] [] ≡ 0
unfolding replacement_bad
no_letters_taken = refl
