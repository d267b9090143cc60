-- What is written for a record in each form, and what is said of one that is refused.
use Rattle.std.specs.Prelude.{ℕ, zero, suc, max, Bool, true, cond, ◌&&◌, eqb, List, [], ◌∷◌, ◌++◌, length}
use Prim.Native.Char.{code}
use Rattle.intervals.specs.declared.Interval.{Interval}
use Rattle.masked_copy.specs.declared.Masking.TheVariants.{LowerCase, Replace}
use Rattle.fasta.specs.Lines.{name_of}
use Rattle.longdust.specs.declared.LongdustOptions.{LongdustOptions}
use Rattle.entries.specs.Entries.{Entry, joined}
use Rattle.entries.specs.declared.sums.Sums.{Sums}
use Rattle.entries.specs.Outcome.{Report, text_of, sums_of}
use Rattle.masker.specs.Run.{Making, by_options}
use Rattle.forms.specs.declared.form.Settings.{Settings}
use Rattle.forms.specs.declared.form.Form.{Form}
use Rattle.forms.specs.declared.form.Form.TheVariants.{Bed, Marks, Soft, HardN, HardX, Summary, Bedgraph, Strongest, Free}
use Rattle.forms.specs.Bed.{bed, marked_bed}
use Rattle.forms.specs.Fasta.{plain_fasta, masked_fasta}
use Rattle.forms.specs.Counts.{accepted_sums, refused_sums}
use Rattle.forms.specs.Summary.{summary_head, summary, summary_foot}
use Rattle.forms.specs.Bedgraph.{bedgraph}
use Rattle.ranking.specs.Ranking.{head}
use Rattle.forms.specs.Strongest.{strongest_lines}
use Rattle.forms.specs.Free.{free_lines}
use Rattle.forms.specs.Notes.{refused_note}

-- An accepted entry with the mask and the marks that these options give; intervals shorter than `least` have no line.
abbrev pub body : LongdustOptions → ℕ → Form → Entry → List Interval → List ℕ → List ℕ
body o least Bed e is marks = bed least (name_of e.header) is
body o least Marks e is marks = marked_bed least (name_of e.header) is marks
body o least Soft e is marks = masked_fasta LowerCase e is
body o least HardN e is marks = masked_fasta (Replace (code "N")) e is
body o least HardX e is marks = masked_fasta (Replace (code "X")) e is
body o least Summary e is marks = summary (name_of e.header) (accepted_sums (joined e.lines) is)
body o least (Bedgraph size) e is marks = bedgraph (name_of e.header) is (length (joined e.lines)) (max size 1)
body o least (Strongest wanted) e is marks = strongest_lines o wanted (name_of e.header) (joined e.lines) is
body o least (Free pad) e is marks = free_lines pad least (name_of e.header) (joined e.lines) is

-- A refused entry: FASTA as it came, nothing in the other forms.
abbrev pub passed : Form → Entry → List ℕ
passed Bed e = []
passed Marks e = []
passed Soft e = plain_fasta e
passed HardN e = plain_fasta e
passed HardX e = plain_fasta e
passed Summary e = []
passed (Bedgraph size) e = []
passed (Strongest wanted) e = []
passed (Free pad) e = []

-- What stands above all records.
abbrev pub head_of : Form → List ℕ
head_of Bed = []
head_of Marks = []
head_of Soft = []
head_of HardN = []
head_of HardX = []
head_of Summary = summary_head
head_of (Bedgraph size) = []
head_of (Strongest wanted) = head
head_of (Free pad) = []

-- What stands below them, by their sums.
abbrev pub foot_of : Sums → Form → List ℕ
foot_of t Bed = []
foot_of t Marks = []
foot_of t Soft = []
foot_of t HardN = []
foot_of t HardX = []
foot_of t Summary = summary_foot t
foot_of t (Bedgraph size) = []
foot_of t (Strongest wanted) = []
foot_of t (Free pad) = []

-- What the writer with a number gets, by its form; one without a form gets nothing.
unfoldable pub by_form : (Form → List ℕ) → List Form → ℕ → List ℕ
by_form text [] i = []
by_form text (f ∷ fs) zero = text f
by_form text (f ∷ fs) (suc i) = by_form text fs i

-- The report of an accepted entry with its mask and its marks, to writers of these forms.
abbrev pub accepted : List Form → LongdustOptions → ℕ → Entry → List Interval → List ℕ → Report
accepted forms o least e is marks =
    record { text = by_form (λ f. body o least f e is marks) forms; notes = []; sums = accepted_sums (joined e.lines) is }

-- Of one that is refused, with the refusal's number.
abbrev pub refused : List Form → Entry → ℕ → Report
refused forms e number =
    record { text = by_form (λ f. passed f e) forms; notes = refused_note (name_of e.header) number (joined e.lines); sums = refused_sums }

-- Refusal 3, too few letters, where such records may pass.
abbrev pub passes : Bool → ℕ → Bool
passes skip number = skip && eqb number 3

-- By the number of a refusal, 0 for none: with the mask, without one, or refused.
abbrev pub report_by : Bool → ℕ → (masked bare through : Report) → Report
report_by skip number masked bare through = cond (eqb number 0) masked (cond (passes skip number) bare through)

-- The report of an entry to writers of these forms, by what becomes of its letters.
unfoldable pub report_by_making : List Form → LongdustOptions → Making → Bool → ℕ → Entry → Report
report_by_making forms o m skip least e =
    let s : List ℕ = joined e.lines in
    report_by skip (m.refusal s) (accepted forms o least e (m.mask s) (m.marks s)) (accepted forms o least e [] []) (refused forms e (m.refusal s))

abbrev pub report_of : List Form → Settings → Entry → Report
report_of forms st e = report_by_making forms st.options (by_options st.options) st.skip_short st.min_length e

-- ---- A file, to the writer with a number.
-- Head, the texts of its records, and the foot by their sums.
abbrev pub whole_text : List Form → Settings → List ℕ → ℕ → List ℕ
whole_text forms st file i =
    by_form head_of forms i
    ++ (text_of true (report_of forms st) file i ++ by_form (foot_of (sums_of true (report_of forms st) file)) forms i)
