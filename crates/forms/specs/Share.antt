-- A share, to six decimals: computed in whole numbers, and rounded once.
use Rattle.std.specs.Prelude.{ℕ, ◌+◌, ◌*◌, ◌/◌, ◌%◌, min, cond, List, [], ◌∷◌, ◌++◌, ltb, eqb}
use Rattle.report.specs.Ascii.{ascii}
use Rattle.report.specs.Text.{decimal}

-- a / d to the nearest whole number; of two that are equally near, the even one.
unfoldable pub rounded : ℕ → ℕ → ℕ
rounded a d =
    let q : ℕ = a / d in
    let r : ℕ = a % d in
    cond (ltb (2 * r) d) q (cond (ltb d (2 * r)) (q + 1) (q + q % 2))

-- n of d letters, in millionths, all of them at the most; 0 of no letters.
unfoldable pub millionths : ℕ → ℕ → ℕ
millionths n d = cond (eqb d 0) 0 (rounded (min n d * 1000000) d)

abbrev pub digit : ℕ → ℕ
digit n = 48 + n % 10

-- The last six digits.
abbrev pub six_digits : ℕ → List ℕ
six_digits m = digit (m / 100000) ∷ digit (m / 10000) ∷ digit (m / 1000) ∷ digit (m / 100) ∷ digit (m / 10) ∷ digit m ∷ []

-- As a column of a line.
abbrev pub share : ℕ → ℕ → List ℕ
share n d =
    let m : ℕ = millionths n d in
    ascii "\t" ++ (decimal (m / 1000000) ++ (ascii "." ++ six_digits m))
