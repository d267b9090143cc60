-- The terms of the search for a k-mer that stands often enough to be searched from.
use Rattle.std.specs.Prelude.{ℕ, ◌≤◌, ◌<◌, ◌≡◌, List, length, take}
use Rattle.letters.specs.declared.Kmer.{Kmer}
use Rattle.letters.specs.Place.{Place, places}
use Rattle.letters.specs.Terms.Rolling.{kmer_after}
use Rattle.scans.specs.Counts.{count}
use Rattle.scans.specs.Terms.Counted.{Counted}

-- Each k-mer stands at fewer than `least` of the places.
pub record Few (least : ℕ) (ps : List Place) : Type 0 where
  pub at : (x : ℕ) → count x ps < least

-- The first i places are counted, and each k-mer stands at fewer than `least` of them.
pub record Counting (k least : ℕ) (codes : List ℕ) (i : ℕ) (newest : Kmer) (counts : List ℕ) : Type 0 where
  pub inside : i ≤ length codes
  pub kmer_is : newest ≡ kmer_after k codes i
  pub counted : Counted 4096 counts (take i (places k codes))
  pub few : Few least (take i (places k codes))
