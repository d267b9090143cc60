-- The terms of the theorems about the answers (proofs/Theorems.antt).
use Rattle.std.specs.Prelude.{ℕ, zero, suc, ◌+◌, ◌≤◌, ◌<◌, List, [], ◌∷◌, length, get_or}
use Rattle.buffers.specs.Fill.{tabulate_from}
use Rattle.intervals.specs.declared.Interval.{Interval}
use Rattle.intervals.specs.Interval.{interval}
use Rattle.questions.specs.Answers.{letters_between}

abbrev pub distance : ℕ → List Interval → ℕ → ℕ
distance x is k = letters_between x (get_or is k (interval 0 0))

-- No interval of the list is nearer to x than that at k, and none as near stands left of it.
pub record Nearest (x : ℕ) (is : List Interval) (k : ℕ) : Type 0 where
  pub inside : k < length is
  pub least : (j : ℕ) → j < length is → distance x is k ≤ distance x is j
  pub leftmost : (j : ℕ) → j < k → distance x is k < distance x is j

-- Some letter of which P holds.
pub record Some (P : ℕ → Type 0) : Type 0 where
  pub letter : ℕ
  pub fact : P letter

-- m numbers from f on.
abbrev pub consecutive : ℕ → ℕ → List ℕ
consecutive f m = tabulate_from (λ (i : ℕ). i) m f

-- The intervals over the ends of a range, so many of them: none; that at j; or that at j and the one after it and the m between.
abbrev pub over_ends : ℕ → ℕ → ℕ → List ℕ
over_ends zero j m = []
over_ends (suc zero) j m = j ∷ []
over_ends (suc (suc c)) j m = j ∷ (j + m + 1) ∷ []
