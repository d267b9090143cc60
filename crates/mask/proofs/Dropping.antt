-- Where no find begins below zero on either strand, the mask and its marks are those of the paper's own rule, which drops an interval that starts there (L6).
use Rattle.std.proofs.Common.{◌≡◌, ap, Bool, true, false, cond, List, ℕ, map, length, T}
use Rattle.letters.specs.Code.{reverse_complement}
use Rattle.intervals.specs.declared.Interval.{Interval}
use Rattle.intervals.specs.declared.Marked.{Marked}
use Rattle.intervals.specs.Merge.{merge, from_forward, merge_marked, backwards}
use Rattle.scans.specs.Setup.{Setup}
use Rattle.step.specs.Dropping.{intervals_dropping, none_below}
use Rattle.step.proofs.Dropping.{same_by_dropping}
use Rattle.mask.specs.Mask.{mask_of, marked_mask_of}

-- The mask by that rule: `mask_of` and `marked_mask_of` of each strand's intervals by it.
abbrev pub mask_dropping : Setup → Bool → List ℕ → List Interval
mask_dropping S forward_only s =
    cond forward_only (intervals_dropping S s)
    (merge (intervals_dropping S s) (backwards (length s) (intervals_dropping S (reverse_complement s))))

abbrev pub marked_mask_dropping : Setup → Bool → List ℕ → List Marked
marked_mask_dropping S forward_only s =
    cond forward_only (map from_forward (intervals_dropping S s))
    (merge_marked (intervals_dropping S s) (backwards (length s) (intervals_dropping S (reverse_complement s))))

-- Of a run over both strands; a forward-only run reads the first alone.
module _ (S : Setup) (s : List ℕ) (forward : T (none_below S s)) where
  pub forward_mask_by_dropping : mask_of S true s ≡ mask_dropping S true s
  unfolding mask_of
  forward_mask_by_dropping = same_by_dropping S s forward

  pub forward_marks_by_dropping : marked_mask_of S true s ≡ marked_mask_dropping S true s
  unfolding marked_mask_of
  forward_marks_by_dropping = ap (λ (is : List Interval). map from_forward is) (same_by_dropping S s forward)

  module _ (reverse : T (none_below S (reverse_complement s))) where
    pub mask_by_dropping : mask_of S false s ≡ mask_dropping S false s
    unfolding mask_of
    mask_by_dropping = rw (same_by_dropping S s forward, same_by_dropping S (reverse_complement s) reverse)

    pub marks_by_dropping : marked_mask_of S false s ≡ marked_mask_dropping S false s
    unfolding marked_mask_of
    marks_by_dropping = rw (same_by_dropping S s forward, same_by_dropping S (reverse_complement s) reverse)
