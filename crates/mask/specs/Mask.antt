-- The paper, 'Both strands': the mask of a sequence of codes, its marks, what it is to be evident on a strand scanned, and that a scan's finds have no better shorter stretch.
use Rattle.std.specs.Prelude.{ℕ, ◌+◌, ◌≡◌, ◌⊎◌, Bool, false, cond, List, [], ◌∷◌, ◌++◌, map, eqb, length}
use Rattle.letters.specs.Code.{reverse_complement}
use Rattle.letters.specs.Place.{places}
use Rattle.intervals.specs.declared.Interval.{Interval}
use Rattle.intervals.specs.Interval.{Holds}
use Rattle.intervals.specs.declared.Marked.{Marked}
use Rattle.intervals.specs.Merge.{merge, from_forward, merge_marked, range, mark_of, backwards}
use Rattle.scans.specs.Setup.{Setup}
use Rattle.scans.specs.Score.{stretch, Evidence, NoBetterShorter}
use Rattle.step.specs.Step.{intervals_of}
use Rattle.step.specs.ScanFind.{FoundByScan}

-- The forward list; unless forward-only is set, joined with the reverse complement's list read backwards.
unfoldable pub mask_of : Setup → Bool → List ℕ → List Interval
mask_of S forward_only s =
    cond forward_only (intervals_of S s) (merge (intervals_of S s) (backwards (length s) (intervals_of S (reverse_complement s))))

-- The same with marks (L7); a forward-only run sets the forward mark alone.
unfoldable pub marked_mask_of : Setup → Bool → List ℕ → List Marked
marked_mask_of S forward_only s =
    cond forward_only (map from_forward (intervals_of S s))
    (merge_marked (intervals_of S s) (backwards (length s) (intervals_of S (reverse_complement s))))

-- A letter of the reverse complement's stretch counts here as letter n-1-x.
pub record OtherStrand (S : Setup) (forward_only : Bool) (s : List ℕ) (x : ℕ) : Type 0 where
  pub scanned : forward_only ≡ false
  pub letter : ℕ
  pub across : x + letter + 1 ≡ length s
  pub evidence : Evidence S (places S.kmer (reverse_complement s)) letter

-- The letters of an interval with the forward mark alone are evident on the forward strand, of one with the reverse mark alone on the other.
pub record EvidentMarked (S : Setup) (forward_only : Bool) (s : List ℕ) (m : Marked) : Type 0 where
  pub forward : mark_of m ≡ 1 → (x : ℕ) → Holds (range m) x → Evidence S (places S.kmer s) x
  pub reverse : mark_of m ≡ 2 → (x : ℕ) → Holds (range m) x → OtherStrand S forward_only s x

-- Marks as bytes, read backwards: forward and reverse change places.
abbrev pub exchanged : ℕ → ℕ
exchanged mark = cond (eqb mark 1) 2 (cond (eqb mark 2) 1 mark)

unfoldable pub backwards_marks : List ℕ → List ℕ
backwards_marks [] = []
backwards_marks (mark ∷ marks) = backwards_marks marks ++ (exchanged mark ∷ [])

-- The letter x lies in the letters of a stretch with evidence on a strand scanned.
abbrev pub Evident : Setup → Bool → List ℕ → ℕ → Type 0
Evident S forward_only s x = Evidence S (places S.kmer s) x ⊎ OtherStrand S forward_only s x

-- The strands scanned, as codes: the sequence's own and, unless forward-only is set, its reverse complement.
abbrev pub Scanned : Bool → List ℕ → List ℕ → Type 0
Scanned forward_only s strand = (strand ≡ s) ⊎ ((forward_only ≡ false) × (strand ≡ reverse_complement s))

-- L9: whenever a scan, not an extension, makes a find on a strand scanned, the exact score of every shorter stretch from the find's first place
-- exceeds the find's by at most (2L + 2) / 2^32, L being its places. `S` holds either setting of approx.
pub record ScansFindNoBetterShorter (S : Setup) (forward_only : Bool) (s : List ℕ) : Type 0 where
  pub find : (strand : List ℕ) → Scanned forward_only s strand → (first size : ℕ) → FoundByScan S (places S.kmer strand) first size
      → NoBetterShorter S (stretch (places S.kmer strand) first size)
