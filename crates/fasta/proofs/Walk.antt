-- Steps one after the other, from the start of the file on, give its records, in order, each with its name and its letters, and then the
-- end or the first fault: none is lost, and none is invented.
use Rattle.std.proofs.Common.{ℕ, ◌≡◌, ap, ◌∙◌, List, [], ◌∷◌, drop, None, Some, Ok, Err}
use Rattle.fasta.specs.Contents.{Contents, holds, contents_of}
use Rattle.fasta.specs.Steps.{Step, record_at}
use Rattle.fasta.specs.Walk.{Answers, gathered}

walk_from : (file : List ℕ) (at : ℕ) (rs : List Step) → Answers file at rs → gathered file rs ≡ contents_of (drop at file)
walk_from file at [] a = absurd a
walk_from file at (Ok None ∷ rs) a = a.contents_are
walk_from file at (Err fault ∷ rs) a = a.contents_are
walk_from file at (Ok (Some found) ∷ rs) a =
    ap (λ (c : Contents). holds (record_at file found.name found.lines) c) (walk_from file found.next.at rs a.1)
    ∙ a.0.contents_are

pub walk : (file : List ℕ) (rs : List Step) → Answers file 0 rs → gathered file rs ≡ contents_of file
walk file rs a = walk_from file 0 rs a
