-- The rule before the request 'Longer stretch on equal scores', for the law that says what that request changed: equal scores gave the shorter stretch.
use Rattle.std.specs.Prelude.{ℕ, zero, suc, ◌+◌, ◌-◌, cond, ℤ}
use Rattle.std.specs.Int.Signed.{lt_z}
use Rattle.strongest.specs.Strongest.{Asked, steps, score_at, gap_over}

unfoldable pub shorter_of : (ℕ → ℤ) → ℕ → ℕ
shorter_of s zero = 1
shorter_of s (suc l) =
    let best : ℕ = shorter_of s l in
    cond (lt_z (s best) (s (suc l))) (suc l) best

abbrev pub start_before : Asked → ℕ
start_before Q = Q.place + 1 - shorter_of (score_at Q) (steps Q)

abbrev pub score_before : Asked → ℤ
score_before Q = score_at Q (shorter_of (score_at Q) (steps Q))

abbrev pub gap_before : Asked → ℕ
gap_before Q = gap_over Q (score_before Q)
