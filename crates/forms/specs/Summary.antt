-- Summary: a line for each record, below a head, and one for all.
use Rattle.std.specs.Prelude.{ℕ, ◌-◌, List, ◌++◌}
use Rattle.report.specs.Ascii.{ascii}
use Rattle.report.specs.Text.{decimal}
use Rattle.entries.specs.declared.sums.Sums.{Sums}
use Rattle.forms.specs.Bed.{place}
use Rattle.forms.specs.Share.{share}

abbrev pub summary_head : List ℕ
summary_head = ascii "#name\tletters\tintervals\tmasked\tshare\tN\tGC\tshare_not_N\n"

-- Letters N; the share of G and C of the letters A, C, G and T; the masked share of the letters that are not N.
abbrev pub of_letters : Sums → List ℕ
of_letters t =
    (ascii "\t" ++ decimal t.n) ++ (share t.gc t.acgt ++ (share (t.masked - t.masked_n) (t.letters - t.n) ++ ascii "\n"))

-- Name, letters, intervals, masked letters, their share; and those.
unfoldable pub summary : List ℕ → Sums → List ℕ
summary name t = place name t.letters t.intervals ++ ((ascii "\t" ++ decimal t.masked) ++ (share t.masked t.letters ++ of_letters t))

-- All records that are accepted.
abbrev pub summary_foot : Sums → List ℕ
summary_foot t = summary (ascii "#all") t
