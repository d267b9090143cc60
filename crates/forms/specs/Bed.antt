-- BED: a line for each interval that is long enough.
use Rattle.std.specs.Prelude.{ℕ, ◌-◌, cond, List, [], ◌++◌, eqb, ltb, length, get_or}
use Rattle.intervals.specs.declared.Interval.{Interval}
use Rattle.intervals.specs.Interval.{interval}
use Rattle.report.specs.Ascii.{ascii}
use Rattle.report.specs.Text.{decimal}
use Rattle.forms.specs.Each.{each}

-- Name, tab, start, tab, end.
abbrev pub place : List ℕ → ℕ → ℕ → List ℕ
place name start end = name ++ ((ascii "\t" ++ decimal start) ++ (ascii "\t" ++ decimal end))

abbrev pub bed_line : List ℕ → Interval → List ℕ
bed_line name i = place name i.start i.end ++ ascii "\n"

-- The line of an interval of at least so many letters; a shorter one has none.
abbrev pub if_long : ℕ → Interval → List ℕ → List ℕ
if_long least i line = cond (ltb (i.end - i.start) least) [] line

unfoldable pub bed : ℕ → List ℕ → List Interval → List ℕ
bed least name is = each (λ n. if_long least (get_or is n (interval 0 0)) (bed_line name (get_or is n (interval 0 0)))) (length is)

-- The strands that saw an interval, by its mark: the first, the second, or both.
unfoldable pub strands : ℕ → List ℕ
strands mark =
    cond (eqb mark 1) (ascii "\tforward\t0\t+\n")
    (cond (eqb mark 2) (ascii "\treverse\t0\t-\n")
    (cond (eqb mark 3) (ascii "\tboth\t0\t.\n") (ascii "\t.\t0\t.\n")))

abbrev pub marked_line : List ℕ → Interval → ℕ → List ℕ
marked_line name i mark = place name i.start i.end ++ strands mark

unfoldable pub marked_bed : ℕ → List ℕ → List Interval → List ℕ → List ℕ
marked_bed least name is marks =
    each (λ n. if_long least (get_or is n (interval 0 0)) (marked_line name (get_or is n (interval 0 0)) (get_or marks n 0))) (length is)
