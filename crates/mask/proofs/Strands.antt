-- Both strands' lists in the fronts of their slices, merged: what the merge asks, and that it leaves the mask.
use Rattle.std.proofs.Common.{◌≡◌, sym, ap₂, subst, ◌∙◌, Bool, false, List, ℕ, ◌+◌, ◌/◌, ◌≤◌, ◌<◌, arith, length, take}
use Rattle.buffers.specs.Fill.{put}
use Rattle.buffers.proofs.Filling.{put_all}
use Rattle.letters.specs.Code.{reverse_complement}
use Rattle.letters.proofs.Codes.{reverse_complement_length}
use Rattle.intervals.specs.declared.Interval.{Interval}
use Rattle.intervals.specs.declared.Marked.{Marked}
use Rattle.intervals.specs.Terms.Bounds.{Inside}
use Rattle.intervals.specs.Merge.{merge, merge_marked, WroteMarked, backwards}
use Rattle.intervals.proofs.Shape.{ascending_inside}
use Rattle.scans.specs.Setup.{Setup}
use Rattle.step.specs.Step.{intervals_of}
use Rattle.mask.specs.Mask.{mask_of, marked_mask_of}
use Rattle.mask.specs.Terms.Both.{other_intervals, Held}
use Rattle.mask.proofs.Masks.{mask_room, mask_merged, marked_merged, others_shape}

-- The reverse complement over a whole buffer.
pub reversed_whole : (s d d' : List ℕ) → d' ≡ put (reverse_complement s) d → length d ≡ length s → d' ≡ reverse_complement s
reversed_whole s d d' e l = e ∙ put_all (reverse_complement s) d (l ∙ sym (reverse_complement_length s))

-- The other strand's list, that of the reverse complement.
pub other_some : (S : Setup) (b : Bool) (s t : List ℕ) (xs : List Interval) (count : ℕ) → b ≡ false → t ≡ reverse_complement s
    → Held (intervals_of S t) xs count → Held (other_intervals S b s) xs count
other_some S b s t xs count e r q = record { list_is = q.list_is ∙ rw (r, e); within = q.within }

module _ (S : Setup) (b : Bool) (s : List ℕ) {fs rs : List Interval} {i j : ℕ} (some : 0 < S.kmer)
    (f : Held (intervals_of S s) fs i) (r : Held (other_intervals S b s) rs j) where
  merged : merge (take i fs) (backwards (length s) (take j rs)) ≡ mask_of S b s
  merged =
      ap₂ (λ (is js : List Interval). merge is (backwards (length s) js)) f.list_is r.list_is ∙ mask_merged S b s some

  pub other_inside : Inside (length s) (take j rs)
  other_inside = rw r.list_is (ascending_inside (length s) S.kmer 0 (other_intervals S b s) (others_shape S b s))

  pub merged_room : (m : ℕ) → (length s + 1) / (S.kmer + 1) ≤ m → length (merge (take i fs) (backwards (length s) (take j rs))) ≤ m
  merged_room m h = rw merged (let r = mask_room S b s some in omega arith)

  pub merged_wrote : {xs xs' : List Interval} {ys ys' : List ℕ} {count : ℕ}
      → WroteMarked (merge_marked (take i fs) (backwards (length s) (take j rs))) xs xs' ys ys' count
      → WroteMarked (marked_mask_of S b s) xs xs' ys ys' count
  merged_wrote {xs} {xs'} {ys} {ys'} {count} w =
      subst (λ (ms : List Marked). WroteMarked ms xs xs' ys ys' count)
      (ap₂ (λ (is js : List Interval). merge_marked is (backwards (length s) js)) f.list_is r.list_is ∙ marked_merged S b s some) w
