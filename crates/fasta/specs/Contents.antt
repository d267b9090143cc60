-- L5: what a file holds: its records in file order, up to its end or its first fault.
use Rattle.std.specs.Prelude.{ℕ, Bool, true, false, cond, ◌||◌, List, [], ◌∷◌, ◌++◌}
use Rattle.fasta.specs.Lines.{lines, is_empty, opens, name_of}

pub record Record : Type 0 where
  pub name : List ℕ
  pub letters : List ℕ

pub data Contents : Type 0 where
  ends : Contents
  fails : ℕ → Contents
  holds : Record → Contents → Contents

-- The letters of a record, from the line after its name on: those of the lines up to the next that opens one.
unfoldable pub letters_below : List (List ℕ) → List ℕ
letters_below [] = []
letters_below (l ∷ ls) = cond (opens l) [] (l ++ letters_below ls)

-- A record, and what follows it; 15, an empty name.
abbrev pub opened : List ℕ → List ℕ → Contents → Contents
opened [] letters rest = fails 15
opened (b ∷ bs) letters rest = holds (record { name = b ∷ bs; letters = letters }) rest

-- What lines hold that stand after a name, or before the first one; 14, letters before it.
unfoldable pub contents : Bool → List (List ℕ) → Contents
contents named [] = ends
contents named (l ∷ ls) =
    cond (opens l)
    (opened (name_of l) (letters_below ls) (contents true ls))
    (cond (named || is_empty l) (contents named ls) (fails 14))

abbrev pub contents_of : List ℕ → Contents
contents_of file = contents false (lines file)

-- The records before the end or the first fault.
abbrev pub records_of : Contents → List Record
records_of ends = []
records_of (fails n) = []
records_of (holds r rest) = r ∷ records_of rest

-- The number of the first fault; 0 if there is none.
abbrev pub fault_of : Contents → ℕ
fault_of ends = 0
fault_of (fails n) = n
fault_of (holds r rest) = fault_of rest

-- What one file holds and then what another holds, if the first has no fault.
abbrev pub followed : Contents → Contents → Contents
followed ends next = next
followed (fails n) next = fails n
followed (holds r rest) next = holds r (followed rest next)
