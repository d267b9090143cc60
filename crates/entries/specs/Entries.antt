-- What a file holds: its records as they came, up to its end or its first fault.
use Rattle.std.specs.Prelude.{ℕ, Bool, true, false, cond, ◌||◌, List, [], ◌∷◌, ◌++◌}
use Rattle.fasta.specs.Lines.{is_empty, opens, name_of}
use Rattle.fasta.specs.Contents.{Record, Contents, ends as no_more, fails as fault, holds as one}
use Rattle.entries.specs.Lines.{file_lines}

-- A record as it came: the line that opens it, from its `>` on, and the lines below it up to the next that opens one.
pub record Entry : Type 0 where
  pub header : List ℕ
  pub lines : List (List ℕ)

-- The lines as one.
unfoldable pub joined : List (List ℕ) → List ℕ
joined [] = []
joined (l ∷ ls) = l ++ joined ls

-- Its name, up to the first blank or tab, and its letters.
abbrev pub record_of : Entry → Record
record_of e = record { name = name_of e.header; letters = joined e.lines }

pub data Entries : Type 0 where
  ends : Entries
  fails : ℕ → Entries
  holds : Entry → Entries → Entries

unfoldable pub lines_below : List (List ℕ) → List (List ℕ)
lines_below [] = []
lines_below (l ∷ ls) = cond (opens l) [] (l ∷ lines_below ls)

-- 15, an empty name.
abbrev pub unless_nameless : List ℕ → Entries → Entries
unless_nameless [] es = fails 15
unless_nameless (b ∷ name) es = es

-- An entry, and what follows it.
abbrev pub opened : List ℕ → List (List ℕ) → Entries → Entries
opened header lines rest = unless_nameless (name_of header) (holds (record { header = header; lines = lines }) rest)

-- What lines hold that stand below a line that opens a record, or before the first one; 14, letters before it.
unfoldable pub entries : Bool → List (List ℕ) → Entries
entries below [] = ends
entries below (l ∷ ls) =
    cond (opens l)
    (opened l (lines_below ls) (entries true ls))
    (cond (below || is_empty l) (entries below ls) (fails 14))

abbrev pub entries_of : Bool → List ℕ → Entries
entries_of cr file = entries false (file_lines cr file)

-- The entries before the end or the first fault.
abbrev pub list_of : Entries → List Entry
list_of ends = []
list_of (fails n) = []
list_of (holds e rest) = e ∷ list_of rest

-- The number of the first fault; 0 if there is none.
abbrev pub fault_of : Entries → ℕ
fault_of ends = 0
fault_of (fails n) = n
fault_of (holds e rest) = fault_of rest

-- The same as the records of crate `fasta`, which have lost the header and how their letters stood in lines.
abbrev pub plain : Entries → Contents
plain ends = no_more
plain (fails n) = fault n
plain (holds e rest) = one (record_of e) (plain rest)

-- What one file holds and then what another holds, if the first has no fault.
abbrev pub followed : Entries → Entries → Entries
followed ends next = next
followed (fails n) next = fails n
followed (holds e rest) next = holds e (followed rest next)
