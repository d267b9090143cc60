-- Scores in units of 2^-32: digits, maybe a point and more digits.
use Rattle.std.specs.Prelude.{ℕ, ◌^◌, cond, eqb, List, length, take, drop, Option, None}
use Rattle.std.specs.List.{prefix_len}
use Rattle.command_line.specs.Number.{is_digit}
use Rattle.command_line.specs.Size.{part, behind, size_by}

-- Up to six digits behind a point; what is less than a unit is left out.
unfoldable pub score : List ℕ → Option ℕ
score cs =
    let n : ℕ = prefix_len is_digit cs in
    let rest : List ℕ = drop n cs in
    cond (eqb (length (behind rest)) 0) (size_by (take n cs) (part rest) (2 ^ 32)) None
