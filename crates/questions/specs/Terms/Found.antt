-- Terms of contracts: where a search stands in a list; a summary of its letters up to b.
use Rattle.std.specs.Prelude.{ℕ, ◌/◌, ◌≤◌, ◌<◌, ◌≡◌, Bool, List, ltb, length, get_or}
use Rattle.intervals.specs.declared.Interval.{Interval}
use Rattle.intervals.specs.Terms.Leading.{leading, ended}
use Rattle.questions.specs.declared.Question.{Question}
use Rattle.questions.specs.Batch.{block, no_question}

abbrev pub begins_before : ℕ → Interval → Bool
begins_before x i = ltb i.start x

-- The index of the first interval whose end lies past x, and of the first that begins at x or later.
abbrev pub first_past : List Interval → ℕ → ℕ
first_past is x = ended is x

abbrev pub first_from : List Interval → ℕ → ℕ
first_from is x = leading (begins_before x) is

-- r is that index, and small enough for 32 bits.
pub record IsFirstPast (is : List Interval) (x r : ℕ) : Type 0 where
  pub index : r ≡ first_past is x
  pub inside : r ≤ length is
  pub small : r ≤ 1073741824

-- The summary s has the whole blocks of the first b letters. Not a field of a type: it is of the list, the summary and the letters asked for.
pub record Summed (is : List Interval) (s : List ℕ) (b : ℕ) : Type 0 where
  pub long : b / 1024 ≤ length s
  pub entry : (j : ℕ) → j < b / 1024 → get_or s j 0 ≡ block is j

-- What an answer about [a, b) leans on.
pub record Ranged (is : List Interval) (s : List ℕ) (a b : ℕ) : Type 0 where
  pub nonempty : a < b
  pub small : b ≤ 2147483647
  pub summed : Summed is s b

-- What an answer to any question leans on: nothing, if it asks for the nearest.
abbrev pub Askable : List Interval → List ℕ → Question → Type 0
Askable is s q = (q.kind ≡ 0 → ⊥) → Ranged is s q.from q.to

abbrev pub AllAskable : List Interval → List ℕ → List Question → Type 0
AllAskable is s qs = (i : ℕ) → i < length qs → Askable is s (get_or qs i no_question)
