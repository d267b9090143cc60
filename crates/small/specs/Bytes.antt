-- The small profile: intervals as bytes.
use Rattle.std.specs.Prelude.{ℕ, ◌/◌, ◌%◌, List, [], ◌∷◌, ◌++◌}
use Rattle.intervals.specs.declared.Interval.{Interval}

-- A number below 2^32 as four bytes, lowest first.
abbrev pub four_bytes : ℕ → List ℕ
four_bytes x = x % 256 ∷ x / 256 % 256 ∷ x / 65536 % 256 ∷ x / 16777216 % 256 ∷ []

-- Start, then end.
abbrev pub pair_bytes : Interval → List ℕ
pair_bytes i = four_bytes i.start ++ four_bytes i.end

unfoldable pub bytes_of : List Interval → List ℕ
bytes_of [] = []
bytes_of (i ∷ is) = pair_bytes i ++ bytes_of is
