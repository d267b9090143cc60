-- Lists from bytes: what `bytes_of` of crate `small` wrote is read.
use Rattle.std.specs.Prelude.{ℕ, ◌+◌, ◌*◌, ◌<◌, List, [], ◌∷◌, get_or}
use Rattle.intervals.specs.declared.Interval.{Interval}

-- The number in the four bytes from place i on, the lowest first.
abbrev pub number_at : List ℕ → ℕ → ℕ
number_at bytes i =
    ((get_or bytes i 0 + 256 * get_or bytes (i + 1) 0) + 65536 * get_or bytes (i + 2) 0) + 16777216 * get_or bytes (i + 3) 0

-- Each start and each end has room in four bytes.
abbrev pub AllFit : List Interval → Type 0
AllFit [] = Unit
AllFit (i ∷ is) = (i.start < 4294967296) × (i.end < 4294967296) × AllFit is
