-- How often the most frequent k-mer of some letters stands in them.
use Rattle.std.specs.Prelude.{ℕ, zero, suc, ◌^◌, max, List}
use Rattle.letters.specs.Code.{codes}
use Rattle.letters.specs.Place.{Place, places}
use Rattle.scans.specs.Counts.{count}

-- The largest count among the k-mers below b.
unfoldable pub largest_count : ℕ → List Place → ℕ
largest_count zero q = 0
largest_count (suc b) q = max (largest_count b q) (count b q)

-- Of all k-mers; an ambiguous place has none. 0 where all are ambiguous.
abbrev pub most_frequent : ℕ → List ℕ → ℕ
most_frequent k letters = largest_count (4 ^ k) (places k (codes letters))
