-- The sizes of the buffers.
use Rattle.std.specs.Prelude.{ℕ, ◌+◌, ◌*◌, ◌/◌, ◌^◌, ◌≡◌, ◌≤◌, length}
use Rattle.ranking.specs.declared.kmers.Counting.{Counting}
use Rattle.ranking.specs.declared.work.Work.{Work}

-- For n letters, and a list of N stretches.
pub record Fitted (n k w N : ℕ) (b : Work) : Type 0 where
  pub codes : length b.codes.items ≡ n
  pub newest : length b.newest.items ≡ 4 ^ k
  pub places : length b.places.items ≡ 2 * w + 4096 + k
  pub tiles : length b.tiles.items ≡ n / (w + 4096) + 1
  pub letters : length b.letters.items ≡ N
  pub scores : length b.scores.items ≡ N

-- For n letters, and all k-mers.
pub record Roomy (k n : ℕ) (c : Counting) : Type 0 where
  pub codes : n ≤ length c.codes.now
  pub counts : length c.counts.now ≡ 4 ^ k

pub record SameRoom (c c' : Counting) : Type 0 where
  pub codes : length c'.codes.now ≡ length c.codes.now
  pub counts : length c'.counts.now ≡ length c.counts.now
