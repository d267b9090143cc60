-- The paper, 'Checking order': the checks of a call as a list of number and test, read from the front; the first that fails decides.
use Rattle.std.specs.Prelude.{ℕ, Bool, cond, List, [], ◌∷◌}

pub record Check : Type 0 where
  pub number : ℕ
  pub fails : Bool

abbrev pub check : ℕ → Bool → Check
check i b = record { number = i; fails = b }

-- The number of the first that fails; 0 if none does.
abbrev pub first : List Check → ℕ
first [] = 0
first (c ∷ cs) = cond c.fails c.number (first cs)
