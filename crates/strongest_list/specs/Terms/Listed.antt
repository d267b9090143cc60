-- Terms of contracts: a list that stands in the lent slices.
use Rattle.std.specs.Prelude.{◌≡◌, List, ℕ, ℤ, length}
use Rattle.buffers.specs.Fill.{put}
use Rattle.intervals.specs.declared.Interval.{Interval}
use Rattle.strongest_list.specs.Stretches.{Asked, Stretch}
use Rattle.strongest_list.specs.Call.{entries, letters_of, scores_of}

-- It stands in the front of both, and the entries past it are as they were.
pub record Lists (A : Asked) (found : List Stretch) (out out' : List Interval) (scores scores' : List ℤ) : Type 0 where
  pub letters_are : out' ≡ put (letters_of A found) out
  pub scores_are : scores' ≡ put (scores_of A found) scores

pub record Answers (A : Asked) (out out' : List Interval) (scores scores' : List ℤ) (count : ℕ) : Type 0 where
  pub listed : Lists A (entries A out scores) out out' scores scores'
  pub count_is : count ≡ length (entries A out scores)
