-- Demand 3 for one strand: the shape of its list and the rows it takes, for any float bits, and its evidence where the flag says yes; then too no shorter stretch is better than one that a scan finds.
-- That the list depends on nothing but the codes, the options and the tables is by its definition, `intervals_of S codes`.
use Rattle.std.proofs.Common.{sym, subst, ℕ, ◌+◌, ◌/◌, ◌≤◌, ◌<◌, List, length, T}
use Rattle.letters.specs.Place.{places}
use Rattle.letters.proofs.Places.{places_length, places_below, places_read}
use Rattle.intervals.specs.Interval.{Canonical, Covers}
use Rattle.intervals.proofs.Shape.{canonical_room}
use Rattle.scans.specs.Setup.{Setup}
use Rattle.scans.specs.Score.{stretch, Evidence, NoBetterShorter}
use Rattle.step.specs.Step.{intervals_of}
use Rattle.scans.specs.Range.{in_range, CheckedSetup}
use Rattle.step.specs.ScanFind.{FoundByScan}
use Rattle.step.proofs.Shape.{places_canonical}
use Rattle.step.proofs.Evidence.{places_evidence}
use Rattle.scans.proofs.Range.{in_range_lem}
use Rattle.step.proofs.Shorter.{found_no_better_shorter}

pub strand_shape : (S : Setup) (codes : List ℕ) → Canonical (length codes) S.kmer (intervals_of S codes)
unfolding intervals_of
strand_shape S codes =
    subst (λ (n : ℕ). Canonical n S.kmer (intervals_of S codes)) (places_length S.kmer codes) (places_canonical S (places S.kmer codes) (places_read S.kmer codes))

-- R rows suffice.
pub strand_room : (S : Setup) (codes : List ℕ) → length (intervals_of S codes) ≤ (length codes + 1) / (S.kmer + 1)
strand_room S codes = canonical_room (length codes) S.kmer (intervals_of S codes) (strand_shape S codes)

-- Every letter that the list covers lies in the letters of a stretch of at most w places whose exact score is at least -(n + w + 4) / 2^32.
pub strand_evidence : (S : Setup) (codes : List ℕ) → CheckedSetup S → T (in_range S) → length codes < 2147483648
    → (x : ℕ) → Covers (intervals_of S codes) x → Evidence S (places S.kmer codes) x
unfolding intervals_of
strand_evidence S codes a t l x c =
    let ps = places S.kmer codes in
    places_evidence S (in_range_lem S a t) ps (places_below S.kmer codes) (subst (λ (n : ℕ). n < 2147483648) (sym (places_length S.kmer codes)) l) (places_read S.kmer codes) x c

-- For every find of L places that the run makes by a scan, the exact score of every shorter stretch from the same first place exceeds that of the find by at most (2L + 2) / 2^32.
-- `codes` are those of either strand.
pub strand_no_better_shorter : (S : Setup) (codes : List ℕ) → CheckedSetup S → T (in_range S) → (first size : ℕ)
    → FoundByScan S (places S.kmer codes) first size → NoBetterShorter S (stretch (places S.kmer codes) first size)
strand_no_better_shorter S codes a t first size f = found_no_better_shorter S (in_range_lem S a t) (places S.kmer codes) (places_below S.kmer codes) first size f
