-- The paper, 'Records' and 'Step and scans': window counts and scan counts. How often a k-mer stands among some places, and counts kept in a list, one for each k-mer.
use Rattle.std.specs.Prelude.{ℕ, ◌+◌, ◌-◌, cond, List, [], ◌∷◌, get_or, set, replicate, eqb}
use Rattle.letters.specs.Place.{Place, ambiguous, plain}
use Rattle.scans.specs.Setup.{Setup, kmers}

-- 1 if the place is a plain one of the k-mer x.
abbrev pub hit : ℕ → Place → ℕ
hit x ambiguous = 0
hit x (plain y) = cond (eqb x y) 1 0

-- How often the k-mer x stands among the places: of a window, its window count.
abbrev pub count : ℕ → List Place → ℕ
count x [] = 0
count x (p ∷ ps) = hit x p + count x ps

-- The counts with one place more, and with one place less; a count of 0 stays.
abbrev pub raise : List ℕ → Place → List ℕ
raise counts ambiguous = counts
raise counts (plain x) = set counts x (get_or counts x 0 + 1)

abbrev pub lower : List ℕ → Place → List ℕ
lower counts ambiguous = counts
lower counts (plain x) = set counts x (get_or counts x 0 - 1)

abbrev pub cleared : Setup → List ℕ
cleared S = replicate (kmers S) 0
