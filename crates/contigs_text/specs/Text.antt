-- L5: what `contigs` prints for a file.
use Rattle.std.specs.Prelude.{ℕ, zero, suc, cond, List, [], ◌∷◌, ◌++◌, ltb, length}
use Rattle.intervals.specs.declared.Interval.{Interval}
use Rattle.fasta.specs.Contents.{Record, contents_of, records_of, fault_of}
use Rattle.report.specs.Ascii.{ascii}
use Rattle.report.specs.Text.{line, numbered, refusal_line, size_line}
use Rattle.longdust.specs.declared.LongdustOptions.{LongdustOptions}
use Rattle.longdust.specs.Options.{defaults}
use Rattle.masker.specs.Run.{record_refusal, record_mask}
use Rattle.contigs_text.specs.declared.Limits.{Limits}

-- Name, tab, start, tab, end.
abbrev pub name_line : List ℕ → Interval → List ℕ
name_line name i = name ++ (ascii "\t" ++ line i)

unfoldable pub mask_lines : List ℕ → List Interval → List ℕ
mask_lines name [] = []
mask_lines name (i ∷ is) = name_line name i ++ mask_lines name is

-- Name, tab, `refused`, tab, and the number or `size`.
abbrev pub refused_line : List ℕ → ℕ → List ℕ
refused_line name number = name ++ numbered (ascii "\trefused\t") number

abbrev pub too_long_line : List ℕ → List ℕ
too_long_line name = name ++ ascii "\trefused\tsize\n"

-- A record's lines are those of its own single run.
abbrev pub answered : List ℕ → ℕ → List Interval → List ℕ
answered name zero mask = mask_lines name mask
answered name (suc number) mask = refused_line name (suc number)

unfoldable pub record_text : Limits → LongdustOptions → Record → List ℕ
record_text most o r =
    cond (ltb most.letters (length r.letters))
    (too_long_line r.name)
    (answered r.name (record_refusal o r.letters) (record_mask o r.letters))

unfoldable pub records_text : Limits → LongdustOptions → List Record → List ℕ
records_text most o [] = []
records_text most o (r ∷ rs) = record_text most o r ++ records_text most o rs

-- A fault is refused for the whole file.
abbrev pub unless_fault : ℕ → List ℕ → List ℕ
unless_fault zero text = text
unless_fault (suc number) text = refusal_line (suc number)

unfoldable pub limited_text : Limits → LongdustOptions → List ℕ → List ℕ
limited_text most o file =
    cond (ltb most.bytes (length file)) size_line
    (unless_fault (fault_of (contents_of file)) (records_text most o (records_of (contents_of file))))

-- The limits of `contigs`, and its text.
abbrev pub limits : Limits
limits = record { bytes = 65536; letters = 32768 }

unfoldable pub file_text : List ℕ → List ℕ
file_text file = limited_text limits defaults file
