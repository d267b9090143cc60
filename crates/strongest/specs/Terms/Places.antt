-- Terms of contracts: the scan counts of the places read, and what one place more adds.
use Rattle.std.specs.Prelude.{◌≡◌, ℕ, suc, ◌+◌, ◌/◌, ◌^◌, ◌≤◌, ◌<◌, List, length, get_or, pos, ◌+ℤ◌}
use Rattle.letters.specs.Place.{plain}
use Rattle.letters.specs.Terms.Entry.{decode}
use Rattle.scans.specs.Counts.{count}
use Rattle.scans.specs.Score.{ln_sums}
use Rattle.strongest.specs.declared.places.Places.{Places}
use Rattle.strongest.specs.Strongest.{entry, largest}
use Rattle.strongest.specs.Terms.Reading.{back, back_to}

-- Of the places' k-mers, each count is how often it stands among the last l.
pub record Known (p : Places) (l : ℕ) (counts : List ℕ) : Type 0 where
  pub long : length counts ≡ 4 ^ p.kmer
  pub known : (i : ℕ) → i < p.steps → (x : ℕ) → back p.kmer p.letters.now i ≡ plain x → get_or counts x 0 ≡ count x (back_to p.kmer p.letters.now l)

-- Places i, i + 1 .., counted back, as queue entries.
pub record EntriesBack (p : Places) (i : ℕ) (entries : List ℕ) : Type 0 where
  pub place : (j : ℕ) → j < length entries → decode (get_or entries j 0) ≡ back p.kmer p.letters.now (i + j)
  pub below : (j : ℕ) → j < length entries → get_or entries j 0 / 2 < 4 ^ p.kmer

-- Place l, counted back, is counted, and r is what it adds.
pub record Adds (p : Places) (l : ℕ) (ln counts : List ℕ) (r : ℕ) : Type 0 where
  pub counts_are : Known p (suc l) counts
  pub value_is : ln_sums (entry ln) (4 ^ p.kmer) (back_to p.kmer p.letters.now (suc l)) ≡ ln_sums (entry ln) (4 ^ p.kmer) (back_to p.kmer p.letters.now l) +ℤ pos r
  pub value_small : r ≤ largest ln p.steps
