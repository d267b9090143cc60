-- The entry that a reader's buffers hold.
use Rattle.std.specs.Prelude.{ℕ, List, [], ◌∷◌, ◌++◌, take, drop, replicate}
use Rattle.entries.specs.declared.held.LineRun.{LineRun}
use Rattle.entries.specs.declared.held.HeldEntry.{HeldEntry}
use Rattle.entries.specs.Entries.{Entry}

-- How long each line is.
unfoldable pub lengths_of : List LineRun → List ℕ
lengths_of [] = []
lengths_of (r ∷ rs) = replicate r.lines r.letters ++ lengths_of rs

-- Lines of these lengths; what is left is one more.
unfoldable pub cut : List ℕ → List ℕ → List (List ℕ)
cut [] [] = []
cut [] (x ∷ xs) = (x ∷ xs) ∷ []
cut (n ∷ ns) xs = take n xs ∷ cut ns (drop n xs)

abbrev pub entry_of : HeldEntry → Entry
entry_of e = record { header = e.header.items; lines = cut (lengths_of e.runs.items) e.letters.items }
