-- The lines of a plan: each says what it is by its first byte, and ends in a zero byte.
use Rattle.std.specs.Prelude.{ℕ, List, [], ◌∷◌, ◌++◌}

abbrev pub line : ℕ → List ℕ → List ℕ
line what value = what ∷ (value ++ 0 ∷ [])
