-- Sizes in bytes: digits, maybe a point and more digits, and maybe a unit.
use Rattle.std.specs.Prelude.{ℕ, Bool, ◌+◌, ◌*◌, ◌/◌, ◌^◌, cond, nat_lt, eqb, ◌||◌, List, [], ◌∷◌, length, take, drop, Option, Some, None, option_and_then, option_map}
use Rattle.std.specs.List.{prefix_len}
use Prim.Native.Char.{code}
use Rattle.command_line.specs.Number.{is_digit, number}

-- A letter in either case.
abbrev pub letter : ℕ → ℕ → Bool
letter c upper = eqb c upper || eqb c (upper + 32)

-- The bytes of a unit; 1 for none.
unfoldable pub unit : List ℕ → Option ℕ
unit [] = Some 1
unit (c ∷ []) =
    cond (letter c (code "K")) (Some (2 ^ 10))
    (cond (letter c (code "M")) (Some (2 ^ 20))
    (cond (letter c (code "G")) (Some (2 ^ 30))
    (cond (letter c (code "T")) (Some (2 ^ 40)) None)))
unit (c ∷ (d ∷ cs)) = None

-- The digits behind a point.
abbrev pub part : List ℕ → List ℕ
part [] = []
part (c ∷ cs) = cond (eqb c (code ".")) (take (prefix_len is_digit cs) cs) []

-- What stands behind these.
abbrev pub behind : List ℕ → List ℕ
behind [] = []
behind (c ∷ cs) = cond (eqb c (code ".")) (drop (prefix_len is_digit cs) cs) (c ∷ cs)

-- What up to six digits behind a point say of a unit; a part of a byte is left out.
unfoldable pub share : ℕ → List ℕ → Option ℕ
share u [] = Some 0
share u (c ∷ cs) = cond (nat_lt 6 (length (c ∷ cs))) None (option_map (λ n. n * u / 10 ^ length (c ∷ cs)) (number 999999 (c ∷ cs)))

-- Whole units, at most 2^62 bytes in all, and a part of one.
unfoldable pub size_by : List ℕ → List ℕ → ℕ → Option ℕ
size_by whole p u = option_and_then (λ n. option_map (λ m. n * u + m) (share u p)) (number (2 ^ 62 / u) whole)

unfoldable pub size : List ℕ → Option ℕ
size cs =
    let n : ℕ = prefix_len is_digit cs in
    let rest : List ℕ = drop n cs in
    option_and_then (λ u. size_by (take n cs) (part rest) u) (unit (behind rest))
