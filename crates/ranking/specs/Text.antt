-- Parts of a line, as bytes.
use Rattle.std.specs.Prelude.{ℕ, zero, suc, ◌+◌, ◌*◌, ◌/◌, ◌%◌, ◌^◌, List, [], ◌∷◌, ◌++◌}
use Rattle.report.specs.Ascii.{ascii}
use Rattle.report.specs.Text.{decimal}

-- f 0, then f 1, and so on: n of them.
unfoldable pub each : (ℕ → List ℕ) → ℕ → List ℕ
each f zero = []
each f (suc n) = each f n ++ f n

-- A tab and a number.
abbrev pub column : ℕ → List ℕ
column n = ascii "\t" ++ decimal n

-- n units of 2^-32 in ten-thousandths, cut.
unfoldable pub ten_thousandths : ℕ → ℕ
ten_thousandths n = n / 2 ^ 32 * 10000 + n % 2 ^ 32 * 10000 / 2 ^ 32

abbrev pub digit : ℕ → ℕ
digit n = 48 + n % 10

-- A tab and m ten-thousandths, with four decimals.
abbrev pub four_decimals : ℕ → List ℕ
four_decimals m = column (m / 10000) ++ (ascii "." ++ (digit (m / 1000) ∷ digit (m / 100) ∷ digit (m / 10) ∷ digit m ∷ []))
