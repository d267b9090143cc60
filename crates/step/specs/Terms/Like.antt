-- Terms of contracts: two runs that agree but for scan counts that are not read.
use Rattle.std.specs.Prelude.{◌≡◌, ℕ, true, List}
use Rattle.step.specs.Step.{Run, is_at}

-- Two runs before letter i that agree but for scan counts that are not read: those of a run whose last letter, i - 1, was not a find.
abbrev pub with_counts : Run → List ℕ → Run
with_counts a counts = record { window = a.window; sum = a.sum; counts = counts; start = a.start; end = a.end; last_q = a.last_q; saved = a.saved }

pub record Like (i : ℕ) (a b : Run) : Type 0 where
  pub run_is : a ≡ with_counts b a.counts
  pub counts_are : is_at b.end i ≡ true → a.counts ≡ b.counts
