-- Lines cut from the front of letters, run by run.
use Rattle.std.specs.Prelude.{ℕ, zero, suc, List, ◌++◌, take, drop, get_or}
use Rattle.report.specs.Ascii.{ascii}
use Rattle.entries.specs.declared.held.LineRun.{LineRun}
use Rattle.forms.specs.Each.{each}

-- What is left after k lines of n letters.
unfoldable pub left : ℕ → ℕ → List ℕ → List ℕ
left zero n xs = xs
left (suc k) n xs = drop n (left k n xs)

-- Line i of those, and its end.
abbrev pub line_at : ℕ → List ℕ → ℕ → List ℕ
line_at n xs i = take n (left i n xs) ++ ascii "\n"

abbrev pub no_run : LineRun
no_run = record { lines = 0; letters = 0 }

-- What is left after j runs.
unfoldable pub left_after : List LineRun → List ℕ → ℕ → List ℕ
left_after runs xs zero = xs
left_after runs xs (suc j) = left (get_or runs j no_run).lines (get_or runs j no_run).letters (left_after runs xs j)

-- The lines of run j, each with its end.
abbrev pub run_at : List LineRun → List ℕ → ℕ → List ℕ
run_at runs xs j = each (line_at (get_or runs j no_run).letters (left_after runs xs j)) (get_or runs j no_run).lines
