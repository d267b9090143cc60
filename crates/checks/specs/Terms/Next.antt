-- The refusal after one more check.
use Rattle.std.specs.Prelude.{ℕ, Bool, cond, eqb}

-- r if a check before has failed; else the number if this one fails, and 0 if not.
unfoldable pub next_check : ℕ → ℕ → Bool → ℕ
next_check r number fails = cond (eqb r 0) (cond fails number 0) r
