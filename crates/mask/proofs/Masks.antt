-- The mask over its definition: shape and room for any float bits, evidence and no better shorter stretch where the flag says yes.
use Rattle.std.proofs.Common.{◌≡◌, refl, sym, subst, ℕ, ◌+◌, ◌-◌, ◌/◌, ◌≤◌, ◌<◌, arith, inl, inr, ⊎_elim, Bool, true, false, List, length, T}
use Rattle.letters.specs.Code.{reverse_complement}
use Rattle.letters.proofs.Codes.{reverse_complement_length}
use Rattle.intervals.specs.Interval.{Canonical, Covers}
use Rattle.intervals.specs.Merge.{merge, merge_marked, ranges, backwards}
use Rattle.intervals.proofs.Shape.{covers_below, merge_canonical, canonical_room}
use Rattle.intervals.proofs.Covered.{merge_covers}
use Rattle.intervals.proofs.Backward.{backwards_canonical, backwards_covers}
use Rattle.intervals.proofs.Theorems.{merge_alone}
use Rattle.intervals.proofs.Marks.{forward_ranges, merged_ranges, marked_alone}
use Rattle.scans.specs.Setup.{Setup}
use Rattle.step.specs.Step.{intervals_of}
use Rattle.scans.specs.Range.{in_range, CheckedSetup}
use Rattle.step.proofs.Theorems.{strand_shape, strand_evidence, strand_no_better_shorter}
use Rattle.mask.specs.Mask.{mask_of, marked_mask_of, Evident, ScansFindNoBetterShorter}
use Rattle.mask.specs.Terms.Both.{other_intervals}

pub other_shape : (S : Setup) (s : List ℕ) → Canonical (length s) S.kmer (intervals_of S (reverse_complement s))
other_shape S s =
    subst (λ (n : ℕ). Canonical n S.kmer (intervals_of S (reverse_complement s))) (reverse_complement_length s) (strand_shape S (reverse_complement s))

pub mask_shape : (S : Setup) (b : Bool) (s : List ℕ) → 0 < S.kmer → Canonical (length s) S.kmer (mask_of S b s)
unfolding mask_of
mask_shape S true s k = strand_shape S s
mask_shape S false s k =
    let n = length s in
    let G = intervals_of S (reverse_complement s) in
    merge_canonical n S.kmer (intervals_of S s) (backwards n G) k (strand_shape S s) (backwards_canonical n S.kmer G k (other_shape S s))

-- R = (n + 1) / (k + 1) entries suffice.
pub mask_room : (S : Setup) (b : Bool) (s : List ℕ) → 0 < S.kmer → length (mask_of S b s) ≤ (length s + 1) / (S.kmer + 1)
mask_room S b s k = canonical_room (length s) S.kmer (mask_of S b s) (mask_shape S b s k)

pub others_shape : (S : Setup) (b : Bool) (s : List ℕ) → Canonical (length s) S.kmer (other_intervals S b s)
others_shape S true s = tt
others_shape S false s = other_shape S s

-- The forward list merged with the other strand's, which in a forward-only run is empty.
pub mask_merged : (S : Setup) (b : Bool) (s : List ℕ) → 0 < S.kmer
    → merge (intervals_of S s) (backwards (length s) (other_intervals S b s)) ≡ mask_of S b s
unfolding mask_of backwards
mask_merged S true s k = merge_alone (length s) S.kmer (intervals_of S s) k (strand_shape S s)
mask_merged S false s k = refl

-- With marks; without them it is the mask.
pub marked_merged : (S : Setup) (b : Bool) (s : List ℕ) → 0 < S.kmer
    → merge_marked (intervals_of S s) (backwards (length s) (other_intervals S b s)) ≡ marked_mask_of S b s
unfolding marked_mask_of backwards
marked_merged S true s k = marked_alone (length s) S.kmer (intervals_of S s) k (strand_shape S s)
marked_merged S false s k = refl

pub mask_ranges : (S : Setup) (b : Bool) (s : List ℕ) → ranges (marked_mask_of S b s) ≡ mask_of S b s
unfolding mask_of marked_mask_of
mask_ranges S true s = forward_ranges (intervals_of S s)
mask_ranges S false s = merged_ranges (intervals_of S s) (backwards (length s) (intervals_of S (reverse_complement s)))

-- Evidence: each masked letter is evident on a strand scanned.
module _ (S : Setup) (s : List ℕ) (k : 0 < S.kmer) (a : CheckedSetup S) (t : T (in_range S)) (l : length s < 2147483648) where
  pub mask_evidence : (b : Bool) (x : ℕ) → Covers (mask_of S b s) x → Evident S b s x
  unfolding mask_of
  mask_evidence true x c = inl (strand_evidence S s a t l x c)
  mask_evidence false x c =
      let n = length s in
      let F = intervals_of S s in
      let G = intervals_of S (reverse_complement s) in
      let g = backwards_canonical n S.kmer G k (other_shape S s) in
      let l' = subst (λ (m : ℕ). m < 2147483648) (sym (reverse_complement_length s)) l in
      ⊎_elim (λ (d : Covers F x). inl (strand_evidence S s a t l x d))
      (λ (d : Covers (backwards n G) x).
      let below = covers_below n S.kmer x 0 (backwards n G) g d in
      let y = n - 1 - x in
      let q : x + y + 1 ≡ n = omega arith in
      let e = (backwards_covers n x y G q).0 d in
      inr (record { scanned = refl; letter = y; across = q; evidence = strand_evidence S (reverse_complement s) a t l' y e }))
      ((merge_covers n S.kmer F (backwards n G) x (strand_shape S s) g).0 c)

-- No better shorter stretch: of any strand, so of those scanned.
pub scans_find : (S : Setup) (b : Bool) (s : List ℕ) → CheckedSetup S → T (in_range S) → ScansFindNoBetterShorter S b s
scans_find S b s a t = record { find = λ strand _ first size f. strand_no_better_shorter S strand a t first size f }
