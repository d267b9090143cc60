-- What the steps of the reader do, where the bytes that are left are known.
use Rattle.std.specs.Prelude.{ℕ, Bool, true, false, not, ◌||◌, eqb, ◌≡◌, List, [], ◌∷◌, ◌++◌, Option, None, Some, ⊤, Result, Ok, Err}
use Rattle.fasta.specs.Lines.{opens}
use Rattle.fasta.specs.Steps.{fault_number}
use Rattle.entries.specs.declared.failed.Failed.{Failed}
use Rattle.entries.specs.declared.failed.Failed.TheVariants.{Faulty, Reading, Writing, Saying, NoMemory}
use Rattle.entries.specs.declared.held.LineRun.{LineRun}
use Rattle.entries.specs.Lines.{file_lines}
use Rattle.entries.specs.Entries.{Entry, ends, fails, holds, lines_below, opened, entries, entries_of}
use Rattle.entries.specs.Held.{lengths_of, cut}

abbrev pub first_of : List ℕ → Option ℕ
first_of [] = None
first_of (x ∷ xs) = Some x

abbrev pub in_name : ℕ → Bool
in_name b = not (eqb b 32 || eqb b 9)

-- A line of xs joined `old`, if there was one.
abbrev pub LineRead : Bool → List ℕ → Option (List ℕ) → List ℕ → List ℕ → Bool → Type 0
LineRead cr xs rest old new true =
    (ys : List ℕ) × (l : List ℕ) × (rest ≡ Some ys) × (file_lines cr xs ≡ l ∷ file_lines cr ys) × (opens l ≡ opens xs) × (new ≡ old ++ l)
LineRead cr xs rest old new false = (rest ≡ Some []) × (xs ≡ []) × (new ≡ old)

-- The lines up to the next that opens a record.
abbrev pub LinesRead : Bool → List ℕ → Option (List ℕ) → List ℕ → List LineRun → Type 0
LinesRead cr xs rest letters runs =
    (ys : List ℕ) × (rest ≡ Some ys) × (cut (lengths_of runs) letters ≡ lines_below (file_lines cr xs)) × (entries true (file_lines cr xs) ≡ entries_of cr ys)

-- The line that opens a record, nothing, or a fault.
abbrev pub HeaderRead : Bool → List ℕ → Option (List ℕ) → List ℕ → Result Bool Failed → Type 0
HeaderRead cr xs rest line (Ok true) =
    (ys : List ℕ) × (rest ≡ Some ys) × (entries_of cr xs ≡ opened line (lines_below (file_lines cr ys)) (entries true (file_lines cr ys)))
HeaderRead cr xs rest line (Ok false) = entries_of cr xs ≡ ends
HeaderRead cr xs rest line (Err (Faulty f)) = entries_of cr xs ≡ fails (fault_number f)
HeaderRead cr xs rest line (Err (Reading e)) = ⊤
HeaderRead cr xs rest line (Err (Writing e)) = ⊥
HeaderRead cr xs rest line (Err (Saying e)) = ⊥
HeaderRead cr xs rest line (Err NoMemory) = ⊥

-- An entry, nothing, or a fault.
abbrev pub EntryRead : Bool → List ℕ → Option (List ℕ) → Entry → Result Bool Failed → Type 0
EntryRead cr xs rest e (Ok true) = (ys : List ℕ) × (rest ≡ Some ys) × (entries_of cr xs ≡ holds e (entries_of cr ys))
EntryRead cr xs rest e (Ok false) = entries_of cr xs ≡ ends
EntryRead cr xs rest e (Err (Faulty f)) = entries_of cr xs ≡ fails (fault_number f)
EntryRead cr xs rest e (Err (Reading x)) = ⊤
EntryRead cr xs rest e (Err (Writing x)) = ⊥
EntryRead cr xs rest e (Err (Saying x)) = ⊥
EntryRead cr xs rest e (Err NoMemory) = ⊥
