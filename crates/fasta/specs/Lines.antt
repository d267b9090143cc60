-- L5: a file is lines, each up to byte 10 or the end of the file; a line that starts with `>` opens a record.
use Rattle.std.specs.Prelude.{ℕ, Bool, true, false, cond, ◌||◌, List, [], ◌∷◌, eqb, drop}

-- The byte b before the first line.
abbrev pub onto : ℕ → List (List ℕ) → List (List ℕ)
onto b [] = (b ∷ []) ∷ []
onto b (l ∷ ls) = (b ∷ l) ∷ ls

unfoldable pub lines : List ℕ → List (List ℕ)
lines [] = []
lines (b ∷ bs) = cond (eqb b 10) ([] ∷ lines bs) (onto b (lines bs))

abbrev pub is_empty : List ℕ → Bool
is_empty [] = true
is_empty (b ∷ l) = false

-- The line starts with `>`.
abbrev pub opens : List ℕ → Bool
opens [] = false
opens (b ∷ l) = eqb b 62

-- Up to the first byte 32 or 9, or the line end.
unfoldable pub word : List ℕ → List ℕ
word [] = []
word (b ∷ l) = cond (eqb b 32 || eqb b 9) [] (b ∷ word l)

-- The name in a line that opens a record.
abbrev pub name_of : List ℕ → List ℕ
name_of l = word (drop 1 l)
