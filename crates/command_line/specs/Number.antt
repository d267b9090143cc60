-- Whole numbers in decimal digits.
use Rattle.std.specs.Prelude.{ℕ, ◌+◌, ◌-◌, ◌*◌, Bool, ◌&&◌, not, cond, eqb, nat_lt, length, List, [], ◌∷◌, Option, Some, None, option_and_then}

abbrev pub is_digit : ℕ → Bool
is_digit c = not (nat_lt c 48) && nat_lt c 58

-- One more digit behind n, if that stays at most `most`.
unfoldable pub joined : ℕ → ℕ → ℕ → Option ℕ
joined most n c = cond (is_digit c) (cond (nat_lt most (n * 10 + (c - 48))) None (Some (n * 10 + (c - 48)))) None

-- More digits behind n.
unfoldable pub read_on : ℕ → ℕ → List ℕ → Option ℕ
read_on most n [] = Some n
read_on most n (c ∷ cs) = option_and_then (λ m. read_on most m cs) (joined most n c)

-- At least one digit, and digits alone.
unfoldable pub number : ℕ → List ℕ → Option ℕ
number most cs = cond (eqb (length cs) 0) None (read_on most 0 cs)
