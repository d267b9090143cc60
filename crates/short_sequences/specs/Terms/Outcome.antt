-- The terms of the inner functions' contracts.
use Rattle.std.specs.Prelude.{ℕ, ◌+◌, cond, List, get_or, set, Option, None, Some}
use Prim.Native.Char.{code}
use Rattle.short_sequences.specs.Sequences.{five_letters}
use Rattle.short_sequences.specs.Tallies.{is_refused, masked_letters}

-- The letter of a digit in base five.
abbrev pub letter_at : ℕ → ℕ
letter_at digit = get_or five_letters digit (code "N")

-- What a run comes to: none if it is refused, or its masked letters.
abbrev pub outcome_of : List ℕ → Option ℕ
outcome_of s = cond (is_refused s) None (Some (masked_letters s))

-- The tallies with an outcome counted, and how many more are refused.
abbrev pub counted : Option ℕ → List ℕ → List ℕ
counted None d = d
counted (Some letters) d = set d letters (get_or d letters 0 + 1)

abbrev pub one_if_refused : Option ℕ → ℕ
one_if_refused None = 1
one_if_refused (Some letters) = 0
