-- The answers of steps made one after the other.
use Rattle.std.specs.Prelude.{ℕ, List, [], ◌∷◌, None, Some, Ok, Err}
use Rattle.fasta.specs.Contents.{Contents, ends, fails, holds}
use Rattle.fasta.specs.Steps.{Step, fault_number, record_at, Told}

-- Each answer is that of a step at the cursor that the one before gave; the last is the end or the fault.
abbrev pub Answers : List ℕ → ℕ → List Step → Type 0
Answers file at [] = ⊥
Answers file at (Ok None ∷ rs) = Told file at (Ok None)
Answers file at (Err fault ∷ rs) = Told file at (Err fault)
Answers file at (Ok (Some found) ∷ rs) = Told file at (Ok (Some found)) × Answers file found.next.at rs

-- The records that they show, and what ends them.
abbrev pub gathered : List ℕ → List Step → Contents
gathered file [] = ends
gathered file (Ok None ∷ rs) = ends
gathered file (Err fault ∷ rs) = fails (fault_number fault)
gathered file (Ok (Some found) ∷ rs) = holds (record_at file found.name found.lines) (gathered file rs)
