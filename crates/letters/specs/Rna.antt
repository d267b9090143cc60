-- The request 'RNA letters': the sequence with T for U and t for u.
use Rattle.std.specs.Prelude.{ℕ, cond, List, map, ◌==◌}

unfoldable pub t_for_u : ℕ → ℕ
t_for_u b = cond (b == 85) 84 (cond (b == 117) 116 b)

unfoldable pub with_t : List ℕ → List ℕ
with_t sequence = map t_for_u sequence
