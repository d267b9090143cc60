-- The entries of a file, and its records in crate `fasta`.
use Rattle.std.proofs.Common.{◌≡◌, ℕ, Bool, true, false, cond, ◌||◌, List, [], ◌∷◌, ◌++◌, map, refl, sym, ap, ap₂, ◌∙◌}
use Rattle.fasta.specs.Lines.{lines, is_empty, opens, name_of}
use Rattle.fasta.specs.Contents.{Record, Contents, fails as fault, holds as one, letters_below, opened as opened_record, contents, contents_of}
use Rattle.entries.specs.Lines.{chomped, file_lines}
use Rattle.entries.specs.Entries.{Entries, fails, holds, joined, lines_below, unless_nameless, opened, entries, entries_of, plain}

letters_are : (ls : List (List ℕ)) → joined (lines_below ls) ≡ letters_below ls
unfolding joined lines_below letters_below
letters_are [] = refl
letters_are (l ∷ ls) = go (letters_are ls) (opens l)
  where
    go : joined (lines_below ls) ≡ letters_below ls → (t : Bool) → joined (cond t [] (l ∷ lines_below ls)) ≡ cond t [] (l ++ letters_below ls)
    go ih true = refl
    go ih false = ap (λ (m : List ℕ). l ++ m) ih

opened_is : (header : List ℕ) (name : List ℕ) (ls : List (List ℕ)) (letters : List ℕ) (rest : Entries) (c : Contents) → name ≡ name_of header → joined ls ≡ letters
    → plain rest ≡ c → plain (unless_nameless name (holds (record { header = header; lines = ls }) rest)) ≡ opened_record name letters c
opened_is header [] ls letters rest c n e q = refl
opened_is header (b ∷ name) ls letters rest c n e q =
    ap₂ (λ (r : Record) (d : Contents). one r d) (ap₂ (λ (x y : List ℕ). record { name = x; letters = y }) (sym n) e) q

-- Lines hold the same records.
pub plain_contents : (below : Bool) (ls : List (List ℕ)) → plain (entries below ls) ≡ contents below ls
unfolding entries contents
plain_contents below [] = refl
plain_contents below (l ∷ ls) = go (plain_contents true ls) (plain_contents below ls) (opens l) (below || is_empty l)
  where
    go : plain (entries true ls) ≡ contents true ls → plain (entries below ls) ≡ contents below ls → (t e : Bool)
        → plain (cond t (opened l (lines_below ls) (entries true ls)) (cond e (entries below ls) (fails 14)))
        ≡ cond t (opened_record (name_of l) (letters_below ls) (contents true ls)) (cond e (contents below ls) (fault 14))
    go h i true e = opened_is l (name_of l) (lines_below ls) (letters_below ls) (entries true ls) (contents true ls) refl (letters_are ls) h
    go h i false true = i
    go h i false false = refl

same_lines : (ls : List (List ℕ)) → map (λ l. chomped false l) ls ≡ ls
same_lines [] = refl
same_lines (l ∷ ls) = ap (λ (m : List (List ℕ)). l ∷ m) (same_lines ls)

-- A file whose bytes 13 are of its lines holds the records of crate `fasta`.
pub plain_file : (file : List ℕ) → plain (entries_of false file) ≡ contents_of file
unfolding file_lines
plain_file file = plain_contents false (file_lines false file) ∙ ap (λ (ls : List (List ℕ)). contents false ls) (same_lines (lines file))
