-- L8: a batch of questions, what it is refused for, and what it leaves in the lent buffers.
use Rattle.std.specs.Prelude.{ℕ, ◌+◌, ◌*◌, ◌/◌, Bool, not, ◌||◌, cond, List, [], ◌∷◌, map, ltb, leb, eqb, length}
use Rattle.std.specs.List.{list_any}
use Rattle.buffers.specs.Fill.{tabulate}
use Rattle.checks.specs.Checks.{Check, check, first}
use Rattle.checks.specs.Tests.{too_many_letters}
use Rattle.intervals.specs.declared.Interval.{Interval}
use Rattle.intervals.specs.Interval.{usual, covered_in}
use Rattle.questions.specs.Answers.{answer_to}
use Rattle.questions.specs.declared.Question.{Question}
use Rattle.questions.specs.declared.Answer.{Answer}

-- n / 1,024, rounded up.
abbrev pub blocks : ℕ → ℕ
blocks n = (n + 1023) / 1024

-- The masked letters of a block, its own letters only.
abbrev pub block : List Interval → ℕ → ℕ
block is j = covered_in is (1024 * j) (1024 * (j + 1))

abbrev pub summary_of : ℕ → List Interval → List ℕ
summary_of n is = tabulate (block is) (blocks n)

-- The question that a read past a slice's end would give.
abbrev pub no_question : Question
no_question = record { kind = 0; from = 0; to = 0 }

abbrev pub result_of : List Interval → Question → Answer
result_of is q = answer_to is q.kind q.from q.to

abbrev pub results_of : List Interval → List Question → List Answer
results_of is qs = map (result_of is) qs

-- A letter not below n; or a range empty or past n, or a kind that there is not.
abbrev pub bad_question : ℕ → ℕ → ℕ → ℕ → Bool
bad_question n kind a b = cond (eqb kind 0) (leb n a) (ltb 3 kind || (leb b a || ltb n b))

abbrev pub any_bad : ℕ → List Question → Bool
any_bad n qs = list_any (λ q. bad_question n q.kind q.from q.to) qs

-- What a list of intervals in n letters is refused for: 10, then 16, a list that is not of the usual kind.
abbrev pub list_refusal : ℕ → List Interval → ℕ
list_refusal n is = first (check 10 (too_many_letters n) ∷ check 16 (not (usual n is)) ∷ [])

-- 10, then 16, a list that is not of the usual kind in n letters, then 11, a lent buffer of too few entries, then 17, a bad question.
abbrev pub checks : ℕ → List Interval → List Question → (summary results : ℕ) → List Check
checks n is qs summary results =
    check 10 (too_many_letters n)
    ∷ check 16 (not (usual n is))
    ∷ check 11 (ltb summary (blocks n) || ltb results (length qs))
    ∷ check 17 (any_bad n qs)
    ∷ []

abbrev pub refusal : ℕ → List Interval → List Question → (summary results : ℕ) → ℕ
refusal n is qs summary results = first (checks n is qs summary results)
