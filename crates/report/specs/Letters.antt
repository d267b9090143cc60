-- The paper, 'Tables and the program': the letters of what is read.
use Rattle.std.specs.Prelude.{ℕ, cond, List, [], ◌∷◌, eqb}

-- All bytes but 10.
unfoldable pub letters_of : List ℕ → List ℕ
letters_of [] = []
letters_of (b ∷ bs) = cond (eqb b 10) (letters_of bs) (b ∷ letters_of bs)
