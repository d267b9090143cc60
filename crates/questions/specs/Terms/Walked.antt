-- Terms of contracts: a walk over the intervals that have letters in [a, b).
use Rattle.std.specs.Prelude.{ℕ, ◌≡◌, List}
use Rattle.intervals.specs.declared.Interval.{Interval}
use Rattle.intervals.specs.Interval.{covered_in}
use Rattle.questions.specs.Terms.Found.{IsFirstPast}
use Rattle.questions.specs.declared.Walked.{Walked}

-- It counted the covered letters of [a, b), and stands where one from b on begins.
pub record Walks (is : List Interval) (a b : ℕ) (w : Walked) : Type 0 where
  pub counted : w.letters ≡ covered_in is a b
  pub onward : IsFirstPast is b w.next
