-- What a step of the reader tells about the file from its cursor on.
use Rattle.std.specs.Prelude.{ℕ, ◌-◌, ◌≤◌, ◌<◌, ◌≡◌, List, length, take, drop, Option, None, Some, Result, Ok, Err}
use Rattle.report.specs.Letters.{letters_of}
use Rattle.fasta.specs.Contents.{Record, Contents, ends, fails, holds, contents_of}
use Rattle.fasta.specs.declared.Part.{Part}
use Rattle.fasta.specs.declared.Found.{Found}
use Rattle.fasta.specs.declared.Fault.{Fault}
use Rattle.fasta.specs.declared.Fault.TheVariants.{LettersFirst, EmptyName}

-- The next record, nothing at the end, or the fault.
abbrev pub Step : Type 0
Step = Result (Option Found) Fault

-- A fault's number.
abbrev pub fault_number : Fault → ℕ
fault_number LettersFirst = 14
fault_number EmptyName = 15

-- 0 for none.
abbrev pub fault_number_of : Option Fault → ℕ
fault_number_of None = 0
fault_number_of (Some fault) = fault_number fault

-- The bytes of a part of a file.
abbrev pub bytes_of : Part → List ℕ → List ℕ
bytes_of p file = take (p.end - p.start) (drop p.start file)

-- The record whose name and whose lines stand in these parts.
abbrev pub record_at : List ℕ → Part → Part → Record
record_at file name lines = record { name = bytes_of name file; letters = letters_of (bytes_of lines file) }

-- The contents that an answer stands for.
abbrev pub shown : List ℕ → Step → Contents
shown file (Ok None) = ends
shown file (Err fault) = fails (fault_number fault)
shown file (Ok (Some found)) = holds (record_at file found.name found.lines) (contents_of (drop found.next.at file))

-- A record's name, its lines and the next cursor stand in this order, after the cursor and within the file.
abbrev pub InOrder : List ℕ → ℕ → Step → Type 0
InOrder file at (Ok None) = Unit
InOrder file at (Err fault) = Unit
InOrder file at (Ok (Some found)) =
    (at < found.name.start)
    × (found.name.start ≤ found.name.end)
    × (found.name.end ≤ found.lines.start)
    × (found.lines.start ≤ found.lines.end)
    × (found.lines.end ≡ found.next.at)
    × (found.next.at ≤ length file)

pub record Told (file : List ℕ) (at : ℕ) (r : Step) : Type 0 where
  pub contents_are : shown file r ≡ contents_of (drop at file)
  pub in_order : InOrder file at r
