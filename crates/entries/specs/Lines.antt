-- The lines of a file. Where `cr` is true, a byte 13 at a line's end is not of the line.
use Rattle.std.specs.Prelude.{ℕ, Bool, cond, eqb, List, [], ◌∷◌, map}
use Rattle.fasta.specs.Lines.{lines}

-- xs without its last byte, if that is b.
abbrev pub dropped : ℕ → List ℕ → List ℕ
dropped b [] = []
dropped b (x ∷ []) = cond (eqb x b) [] (x ∷ [])
dropped b (x ∷ (y ∷ xs)) = x ∷ dropped b (y ∷ xs)

abbrev pub chomped : Bool → List ℕ → List ℕ
chomped cr l = cond cr (dropped 13 l) l

unfoldable pub file_lines : Bool → List ℕ → List (List ℕ)
file_lines cr file = map (λ l. chomped cr l) (lines file)
