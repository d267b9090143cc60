-- Terms of contracts: the counts of the k-mers of a strand cs, of which no others are known.
use Rattle.std.specs.Prelude.{◌≡◌, ℕ, ◌+◌, ◌^◌, ◌<◌, List, length, get_or, set, take}
use Rattle.letters.specs.Place.{Place, ambiguous, plain, place_at, places}
use Rattle.scans.specs.Counts.{count}

-- The first i places.
abbrev pub front : ℕ → List ℕ → ℕ → List Place
front k cs i = take i (places k cs)

-- Of the places' k-mers, each count is how often it stands among the first i.
pub record Known (k : ℕ) (cs : List ℕ) (i : ℕ) (counts : List ℕ) : Type 0 where
  pub long : length counts ≡ 4 ^ k
  pub known : (j : ℕ) → j < length cs → (x : ℕ) → place_at k cs j ≡ plain x → get_or counts x 0 ≡ count x (front k cs i)

-- The counts with that of the place's k-mer set to 0.
abbrev pub cleared_at : List ℕ → Place → List ℕ
cleared_at counts ambiguous = counts
cleared_at counts (plain x) = set counts x 0

-- The count of a place once it is counted.
abbrev pub raised : List ℕ → Place → ℕ
raised counts ambiguous = 0
raised counts (plain x) = get_or counts x 0 + 1
