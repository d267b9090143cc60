-- Exact scores of starts in whole numbers of 2^-32: of a start with the places q, the ln entries that its places gain, less T for each and their f entry.
-- They are those of the request 'Strongest stretch at a letter', over tables that are made of the masker's floats.
use Rattle.std.specs.Prelude.{ℕ, suc, ◌+◌, ◌*◌, List, [], ◌∷◌, get_or, Float}
use Rattle.std.specs.Float.{binary64}
use Rattle.std.specs.Float.Ieee.{of_bits, to_unsigned}
use Rattle.floats.specs.Arithmetic.{◌⊗◌}
use Rattle.letters.specs.Place.{Place, ambiguous, plain}
use Rattle.scans.specs.Counts.{count}

-- 2^32
abbrev pub two_to32 : Float
two_to32 = of_bits binary64 0x41f0_0000_0000_0000

-- A table's entry, or T, in whole numbers of 2^-32: rounded down.
unfoldable pub whole : Float → ℕ
whole x = to_unsigned 64 (x ⊗ two_to32)

-- The order of a place before the places q: how often its k-mer stands in it and them; 0 if ambiguous.
abbrev pub order : List Place → Place → ℕ
order q ambiguous = 0
order q (plain x) = suc (count x q)

-- What the places q gain: each the ln entry of its order before those after it. Entry 0, that of ambiguous places, is 0.
abbrev pub gain : List ℕ → List Place → ℕ
gain ln [] = 0
gain ln (e ∷ q) = get_or ln (order q e) 0 + gain ln q

-- What l places lose.
abbrev pub loss : ℕ → List ℕ → ℕ → ℕ
loss t f l = l * t + get_or f l 0

-- 2^-10, by which scores must be apart for the floats of the definition to compare as they do.
abbrev pub mu : ℕ
mu = 4194304
