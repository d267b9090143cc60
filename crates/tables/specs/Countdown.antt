-- The paper, 'Tables and the program': the repetitions of its formulas, 'for d = 19, 17 .. 1', 'for d = 20 down to 1' and a product 'repeated', as one loop that counts down.
use Rattle.std.specs.Prelude.{ℕ, zero, suc, Float}

-- h becomes step j h, for j = n - 1, n - 2 .. 0
unfoldable pub countdown : (ℕ → Float → Float) → ℕ → Float → Float
countdown step zero h = h
countdown step (suc j) h = countdown step j (step j h)
