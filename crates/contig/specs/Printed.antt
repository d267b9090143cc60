-- The paper, 'Tables and the program': what `track` prints.
use Rattle.std.specs.Prelude.{ℕ, zero, suc, cond, List, ltb, length}
use Rattle.intervals.specs.declared.Interval.{Interval}
use Rattle.report.specs.Letters.{letters_of}
use Rattle.report.specs.Text.{report, refusal_line, size_line}
use Rattle.contig.specs.Run.{most_letters, contig_refusal, contig_mask}

-- The refusal of a number above 0, else the report of the mask.
abbrev pub answered : ℕ → List Interval → List ℕ
answered zero mask = report mask
answered (suc number) mask = refusal_line (suc number)

-- For the letters.
unfoldable pub printed : List ℕ → List ℕ
printed letters = cond (ltb most_letters (length letters)) size_line (answered (contig_refusal letters) (contig_mask letters))

-- For the bytes that are read: their letters are all but bytes 10.
unfoldable pub text_of : List ℕ → List ℕ
text_of bytes = printed (letters_of bytes)
