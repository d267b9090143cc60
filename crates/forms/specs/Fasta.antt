-- FASTA: the header, and the lines as long as they came, their masked letters in lower case or replaced.
use Rattle.std.specs.Prelude.{ℕ, List, [], ◌∷◌, ◌++◌, map, length}
use Rattle.intervals.specs.declared.Interval.{Interval}
use Rattle.masked_copy.specs.declared.Masking.{Masking}
use Rattle.masked_copy.specs.Copy.{copy_of}
use Rattle.report.specs.Ascii.{ascii}
use Rattle.entries.specs.Entries.{Entry, joined}
use Rattle.entries.specs.Held.{cut}

-- Each line, and its end.
unfoldable pub ended : List (List ℕ) → List ℕ
ended [] = []
ended (l ∷ ls) = (l ++ ascii "\n") ++ ended ls

-- The header and the lines as they came.
unfoldable pub plain_fasta : Entry → List ℕ
plain_fasta e = (e.header ++ ascii "\n") ++ ended e.lines

-- The lines of an entry with its masked letters.
abbrev pub masked_lines : Masking → Entry → List Interval → List (List ℕ)
masked_lines m e is = cut (map (λ l. length l) e.lines) (copy_of m is (joined e.lines))

unfoldable pub masked_fasta : Masking → Entry → List Interval → List ℕ
masked_fasta m e is = (e.header ++ ascii "\n") ++ ended (masked_lines m e is)
