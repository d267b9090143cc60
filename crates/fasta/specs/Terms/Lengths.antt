-- Terms of contracts: how many bytes, from the front of what is left of a file, belong to one thing.
use Rattle.std.specs.Prelude.{ℕ, suc, Bool, cond, not, ◌&&◌, ◌||◌, List, [], ◌∷◌, eqb}
use Rattle.std.specs.List.{prefix_len}

-- Bytes 10, up to the first other byte.
abbrev pub empty_lines : List ℕ → ℕ
empty_lines bs = prefix_len (λ b. eqb b 10) bs

-- A name, up to the first byte 32, 9 or 10.
abbrev pub name_length : List ℕ → ℕ
name_length bs = prefix_len (λ b. not ((eqb b 32 || eqb b 9) || eqb b 10)) bs

-- A line without its byte 10.
abbrev pub line_length : List ℕ → ℕ
line_length bs = prefix_len (λ b. not (eqb b 10)) bs

-- Lines, up to the next that opens a record; `fresh` if the first byte starts a line.
unfoldable pub lines_length : Bool → List ℕ → ℕ
lines_length fresh [] = 0
lines_length fresh (b ∷ bs) = cond (fresh && eqb b 62) 0 (suc (lines_length (eqb b 10) bs))
