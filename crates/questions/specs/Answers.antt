-- L8, 'Questions about a position': the answer to each kind of question, as a full walk over the list gives it. An answer is two numbers.
use Rattle.std.specs.Prelude.{ℕ, suc, ◌+◌, ◌-◌, ◌*◌, ◌/◌, ◌%◌, min, max, Bool, ◌&&◌, cond, List, [], ◌∷◌, ltb, leb, eqb, length, get_or}
use Rattle.questions.specs.declared.Answer.{Answer}
use Rattle.intervals.specs.declared.Interval.{Interval}
use Rattle.intervals.specs.Interval.{interval, covered_in}

abbrev pub answer : ℕ → ℕ → Answer
answer a b = record { first = a; second = b }

-- No interval, and 0.
abbrev pub none : Answer
none = answer 4294967295 0

-- The letters between letter x and an interval: 0 when it covers x or is adjacent.
abbrev pub letters_between : ℕ → Interval → ℕ
letters_between x i = (i.start - (x + 1)) + (x - i.end)

-- The index of the nearest to x in a list that begins with i: that of i, unless one after it is nearer.
unfoldable pub nearest_index : ℕ → Interval → List Interval → ℕ
nearest_index x i [] = 0
nearest_index x i (j ∷ is) =
    let k = nearest_index x j is in
    cond (leb (letters_between x i) (letters_between x (get_or (j ∷ is) k (interval 0 0)))) 0 (suc k)

-- Nearest: its index and the letters between; of equal distances the left one.
unfoldable pub nearest : ℕ → List Interval → Answer
nearest x [] = none
nearest x (i ∷ is) =
    let k = nearest_index x i is in
    answer k (letters_between x (get_or (i ∷ is) k (interval 0 0)))

-- The indices of the intervals that pass a test, where the list's first has index j.
unfoldable pub indices : (Interval → Bool) → ℕ → List Interval → List ℕ
indices p j [] = []
indices p j (i ∷ is) = cond (p i) (j ∷ indices p (suc j) is) (indices p (suc j) is)

-- The index of the first such interval and how many there are, or none and 0.
abbrev pub first_and_count : List ℕ → Answer
first_and_count [] = none
first_and_count (j ∷ js) = answer j (suc (length js))

abbrev pub all_that : (Interval → Bool) → List Interval → Answer
all_that p is = first_and_count (indices p 0 is)

-- The interval lies wholly within the range [a, b).
abbrev pub within : ℕ → ℕ → Interval → Bool
within a b i = leb a i.start && leb i.end b

-- How many letters of the interval lie inside the range.
abbrev pub inside : ℕ → ℕ → Interval → ℕ
inside a b i = min i.end b - max i.start a

-- It has letters both inside and outside the range.
abbrev pub partly : ℕ → ℕ → Interval → Bool
partly a b i = ltb 0 (inside a b i) && ltb (inside a b i) (i.end - i.start)

-- The range's masked share in ten-thousandths, and the remainder.
unfoldable pub share : ℕ → ℕ → List Interval → Answer
share a b is = answer ((10000 * covered_in is a b) / (b - a)) ((10000 * covered_in is a b) % (b - a))

-- The kinds: 0 nearest to letter a, 1 wholly within [a, b), 2 both inside and outside, 3 share.
unfoldable pub answer_to : List Interval → ℕ → ℕ → ℕ → Answer
answer_to is kind a b =
    cond (eqb kind 0) (nearest a is)
    (cond (eqb kind 1) (all_that (within a b) is)
    (cond (eqb kind 2) (all_that (partly a b) is) (share a b is)))
