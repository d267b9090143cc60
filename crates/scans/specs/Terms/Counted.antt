-- Terms of contracts: counts that are those of places.
use Rattle.std.specs.Prelude.{ℕ, ◌≤◌, ◌≡◌, List, length, get_or}
use Rattle.letters.specs.Place.{Place}
use Rattle.scans.specs.Counts.{count}

-- A list of m counts that are those of the places. Not a field of a type: the counts change in every call.
pub record Counted (m : ℕ) (counts : List ℕ) (q : List Place) : Type 0 where
  pub long : length counts ≡ m
  pub counted : (x : ℕ) → get_or counts x 0 ≡ count x q

-- No count is above how often its k-mer stands among the places, so that a count above 0 is that of one of them.
pub record Touched (counts : List ℕ) (es : List Place) : Type 0 where
  pub at_most : (x : ℕ) → get_or counts x 0 ≤ count x es
