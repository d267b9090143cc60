-- The refusals of all calls, each with its number and its text, and the values of a refused request's answer.
use Rattle.std.specs.Prelude.{ℕ, Bool, false, cond, eqb, List, Result, Ok, Err, codes}
use Rattle.checks.specs.declared.refusal.Refusal.{Refusal}
use Rattle.checks.specs.declared.refusal.Refusal.TheVariants.{KmerOutside, HighByte, TooFewLetters, WindowBelow, WindowAbove, BadThreshold, BadGc, MinStartBelow, BadXdrop, TooManyLetters, ShortSlice, BadReplacement, OtherByte, UnusualList, BadQuestion, NoBudget, PlaceOutside, HighTable, OutsideProfile, BadLength}

abbrev pub number : Refusal → ℕ
number KmerOutside = 1
number HighByte = 2
number TooFewLetters = 3
number WindowBelow = 4
number WindowAbove = 5
number BadThreshold = 6
number BadGc = 7
number MinStartBelow = 8
number BadXdrop = 9
number TooManyLetters = 10
number ShortSlice = 11
number BadReplacement = 12
number OtherByte = 13
number UnusualList = 16
number BadQuestion = 17
number NoBudget = 18
number PlaceOutside = 19
number HighTable = 20
number OutsideProfile = 21
number BadLength = 22

-- The number of an answer's refusal; 0 for an accepted request.
abbrev pub number_of : {A : Type 0} → Result A Refusal → ℕ
number_of (Ok _) = 0
number_of (Err refusal) = number refusal

-- The values of a refusal: its number, count 0 and flag no. So of each answer: `counted` and `flagged` read them from what an accepted request is answered.
abbrev pub count_by : {A : Type 0} → (A → ℕ) → Result A Refusal → ℕ
count_by counted (Ok answer) = counted answer
count_by counted (Err _) = 0

abbrev pub flag_by : {A : Type 0} → (A → Bool) → Result A Refusal → Bool
flag_by flagged (Ok answer) = flagged answer
flag_by flagged (Err _) = false

-- Of an answer that is a count.
abbrev pub count_of : Result ℕ Refusal → ℕ
count_of answer = count_by (λ count. count) answer

-- The values for a request, by the number of the first check that fails, 0 if none does.
abbrev pub count_unless : ℕ → ℕ → ℕ
count_unless number count = cond (eqb number 0) count 0

abbrev pub flag_unless : ℕ → Bool → Bool
flag_unless number flag = cond (eqb number 0) flag false

-- A refusal's text.
abbrev pub text : Refusal → List ℕ
text KmerOutside = codes "the k-mer length is outside 1 to 12"
text HighByte = codes "a letter is a byte of 128 or more"
text TooFewLetters = codes "there are fewer than k + 1 letters"
text WindowBelow = codes "the window size is below k + 1"
text WindowAbove = codes "the window size is above 65535"
text BadThreshold = codes "the score threshold is not finite or not above 0"
text BadGc = codes "a fixed GC is not a number or outside 0 to 1"
text MinStartBelow = codes "min_start_cnt is below 2"
text BadXdrop = codes "xdrop is 0"
text TooManyLetters = codes "there are more than 2147483647 letters"
text ShortSlice = codes "a lent slice is shorter than listed"
text BadReplacement = codes "the replacement is neither N nor X"
text OtherByte = codes "a letter is not A to Z in either case, - or *"
text UnusualList = codes "a list is not of the usual kind"
text BadQuestion = codes "a question has an unknown kind, letter or range"
text NoBudget = codes "the budget is 0"
text PlaceOutside = codes "the place is not one of the letters"
text HighTable = codes "the threshold or a table entry is too high"
text OutsideProfile = codes "the request is outside the small profile"
text BadLength = codes "the length is not 1 to 8"
