-- The shape of a run's intervals, for any float bits: each find has at least k letters and ends past all that is saved, so what is saved is canonical at every letter.
use Rattle.std.proofs.Common.{◌≡◌, sym, ap, subst, ℕ, ◌+◌, ◌-◌, ◌/◌, ◌≤◌, ◌<◌, arith, cond, List, [], ◌∷◌, length, length-append, leb, ℤ, pos, negsuc, ◌-ℤ◌}
use lib.Signed.{lt_z}
use Rattle.floats.proofs.Whole.{Is, is_as, is_sub}
use Rattle.letters.specs.Place.{Place, ambiguous, plain, ReadAt, ReadFrom}
use Rattle.intervals.specs.declared.Interval.{Interval}
use Rattle.intervals.specs.Interval.{Canonical}
use Rattle.intervals.specs.Terms.Bounds.{EndsBelow}
use Rattle.intervals.proofs.Shape.{ascending_more, canonical_room}
use Rattle.intervals.proofs.Saving.{save_canonical, save_ends, ends_more}
use Rattle.scans.specs.Setup.{Setup}
use Rattle.scans.specs.Counts.{count}
use Rattle.scans.specs.Scans.{Find, none, at, Outcome}
use Rattle.scans.proofs.Test.{by_test}
use Rattle.scans.proofs.ForwardScore.{forward_inside}
use Rattle.step.specs.Step.{Run, begin, without_oldest, leave, join, search, st2, first_letter, start_after, whole, save_from, saved_after, found_by, found, look, step, run_from, run, intervals_of_places}
use Rattle.step.specs.Terms.Finding.{StartOk, ShapedList}
use Rattle.step.proofs.Finds.{search_facts}

-- ---- st2 is (i + j + 2) - (len + k).
pub st2_is : (k i len j : ℕ) → Is (st2 k i len j) (i + j + 2) (len + k)
st2_is k i len j =
    let l : Is (pos len -ℤ pos 1 -ℤ pos j) (len + 0 + 0) (0 + 1 + j) =
    is_sub (pos len -ℤ pos 1) (pos j) (len + 0) (0 + 1) j 0 (is_sub (pos len) (pos 1) len 0 1 0 (omega arith) (omega arith)) (omega arith) in
    let s : Is (pos k -ℤ pos 1) (k + 0) (0 + 1) = is_sub (pos k) (pos 1) k 0 1 0 (omega arith) (omega arith) in
    let a : Is (pos i -ℤ (pos len -ℤ pos 1 -ℤ pos j)) (i + (0 + 1 + j)) (0 + (len + 0 + 0)) =
    is_sub (pos i) (pos len -ℤ pos 1 -ℤ pos j) i 0 (len + 0 + 0) (0 + 1 + j) (omega arith) l in
    is_as (st2 k i len j) (i + (0 + 1 + j) + (0 + 1)) (0 + (len + 0 + 0) + (k + 0)) (i + j + 2) (len + k) (omega arith)
    (is_sub (pos i -ℤ (pos len -ℤ pos 1 -ℤ pos j)) (pos k -ℤ pos 1) (i + (0 + 1 + j)) (0 + (len + 0 + 0)) (k + 0) (0 + 1) a s)

-- Raised, it is that difference where it is not below zero, else 0.
whole_diff : (z : ℤ) (a b : ℕ) → Is z a b → whole z ≡ a - b
whole_diff (pos s) a b h = omega arith
whole_diff (negsuc s) a b h = omega arith

pub first_is : (k i len j : ℕ) → first_letter k i len j ≡ pos (i + j + 2 - (len + k))
first_is k i len j = ap pos (whole_diff (st2 k i len j) (i + j + 2) (len + k) (st2_is k i len j))

-- ---- After i letters.
start_more : (k : ℕ) (start : ℤ) (e e' : ℕ) → e ≤ e' → StartOk k start e → StartOk k start e'
start_more k (pos s) e e' h r = omega arith
start_more k (negsuc s) e e' h r = tt

-- The interval from start to end is saved.
pub saved_canonical : (k i : ℕ) (start end : ℤ) (saved : List Interval) → ShapedList k i start end saved → Canonical i k (save_from saved start end)
saved_canonical k i (pos s) end saved h = save_canonical i k s (whole end) saved h.start_ok h.end_in h.canonical
saved_canonical k i (negsuc s) end saved h = h.canonical

saved_ends : (k i : ℕ) (start end : ℤ) (saved : List Interval) → ShapedList k i start end saved → EndsBelow (i + 1) (save_from saved start end)
saved_ends k i (pos s) end saved h =
    save_ends i k s (whole end) (i + 1) saved h.canonical (omega (arith, h.end_in)) (ends_more (whole end) (i + 1) saved (omega (arith, h.end_in)) h.ends_below)
saved_ends k i (negsuc s) end saved h = ends_more (whole end) (i + 1) saved (omega (arith, h.end_in)) h.ends_below

-- At every letter what is saved fits R rows, also after a save.
pub saved_room : (n k i : ℕ) (start end : ℤ) (saved : List Interval) → i ≤ n → ShapedList k i start end saved
    → (length saved ≤ (n + 1) / (k + 1)) × (length (save_from saved start end) ≤ (n + 1) / (k + 1))
saved_room n k i start end saved l h = (
  canonical_room n k saved (ascending_more i n k 0 saved l h.canonical),
  canonical_room n k (save_from saved start end) (ascending_more i n k 0 (save_from saved start end) l (saved_canonical k i start end saved h)),
)

-- More letters, without a find.
pub shaped_more : (k i i' : ℕ) (start end : ℤ) (saved : List Interval) → i ≤ i' → ShapedList k i start end saved → ShapedList k i' start end saved
shaped_more k i i' start end saved l h =
    record { canonical = ascending_more i i' k 0 saved l h.canonical; ends_below = h.ends_below; end_in = omega (arith, h.end_in); start_ok = h.start_ok }

-- With a find whose letters start at s.
shaped_find : (k i : ℕ) (start end s : ℤ) (saved : List Interval) → ShapedList k i start end saved → StartOk k s (i + 1)
    → ShapedList k (i + 1) (start_after start end s) (pos (i + 1)) (saved_after saved start end s)
shaped_find k i start end s saved h w =
    let kept : List Interval = save_from saved start end in
    record {
      canonical = by_test (λ (l : List Interval). Canonical (i + 1) k l) (lt_z s end) saved kept
          (λ _. ascending_more i (i + 1) k 0 saved (omega arith) h.canonical) (λ _. ascending_more i (i + 1) k 0 kept (omega arith) (saved_canonical k i start end saved h));
      ends_below = by_test (λ (l : List Interval). EndsBelow (i + 1) l) (lt_z s end) saved kept
          (λ _. ends_more (whole end) (i + 1) saved (omega (arith, h.end_in)) h.ends_below) (λ _. saved_ends k i start end saved h);
      end_in = omega arith;
      start_ok = by_test (λ (z : ℤ). StartOk k z (i + 1)) (lt_z s end) (cond (lt_z s start) s start) s
          (λ _. by_test (λ (z : ℤ). StartOk k z (i + 1)) (lt_z s start) s start (λ _. w) (λ _. start_more k start (whole end) (i + 1) (omega (arith, h.end_in)) h.start_ok))
          (λ _. w);
    }

-- A find at a place of the window, k letters or more read: its first letter + k <= i + 1.
start_of : (k i len j : ℕ) → j < len → k ≤ i + 1 → StartOk k (first_letter k i len j) (i + 1)
start_of k i len j l r = subst (λ (z : ℤ). StartOk k z (i + 1)) (sym (first_is k i len j)) (omega arith)

-- ---- The letters, one by one.
abbrev pub ShapedAt : Setup → ℕ → Run → Type 0
ShapedAt S i a = ShapedList S.kmer i a.start a.end a.saved

abbrev pub InWindow : List Place → Find → Type 0
InWindow q none = Unit {0}
InWindow q (at j) = j < length q

module _ (S : Setup) where
  without_shaped : (i : ℕ) (a : Run) (q : List Place) → ShapedAt S i a → ShapedAt S i (without_oldest S a q)
  without_shaped i a [] h = h
  without_shaped i a (e ∷ q) h = record { canonical = h.canonical; ends_below = h.ends_below; end_in = h.end_in; start_ok = h.start_ok }

  pub leave_shaped : (i : ℕ) (a : Run) → ShapedAt S i a → ShapedAt S i (leave S a)
  unfolding leave
  leave_shaped i a h =
      by_test (λ (b : Run). ShapedAt S i b) (leb S.window_size (length a.window)) (without_oldest S a a.window) a (λ _. without_shaped i a a.window h) (λ _. h)

  pub join_shaped : (i : ℕ) (a : Run) (e : Place) → ShapedAt S i a → ShapedAt S i (join S a e)
  unfolding join
  join_shaped i a e h = h

  pub join_some : (a : Run) (e : Place) → 0 < length (join S a e).window
  unfolding join
  join_some a e = omega (arith, length-append a.window (e ∷ []))

  pub search_inside : (i : ℕ) (a : Run) (x : ℕ) → 0 < length a.window → InWindow a.window (search S i a x).find
  search_inside i a x some = search_facts S i a x (InWindow a.window) tt (λ j m e. forward_inside S a.window j m some e) (λ _. some)

  found_shaped : (i : ℕ) (a : Run) (counts : List ℕ) (f : Find) → InWindow a.window f → S.kmer ≤ i + 1 → ShapedAt S i a → ShapedAt S (i + 1) (found_by S i a counts f)
  unfolding found_by
  found_shaped i a counts none w r h = shaped_more S.kmer i (i + 1) a.start a.end a.saved (omega arith) h
  found_shaped i a counts (at j) w r h =
      let k : ℕ = S.kmer in
      let len : ℕ = length a.window in
      shaped_find k i a.start a.end (first_letter k i len j) a.saved h (start_of k i len j w r)

  look_shaped : (i : ℕ) (a : Run) (e : Place) → 0 < length a.window → ReadAt S.kmer i e → ShapedAt S i a → ShapedAt S (i + 1) (look S i a e)
  unfolding look found
  look_shaped i a ambiguous some r h = shaped_more S.kmer i (i + 1) a.start a.end a.saved (omega arith) h
  look_shaped i a (plain x) some l h =
      let r : Outcome = search S i a x in
      by_test (λ (b : Run). ShapedAt S (i + 1) b) (leb S.min_start_cnt (count x a.window)) (found_by S i a r.counts r.find) a
      (λ _. found_shaped i a r.counts r.find (search_inside i a x some) l h)
      (λ _. shaped_more S.kmer i (i + 1) a.start a.end a.saved (omega arith) h)

  pub step_shaped : (i : ℕ) (a : Run) (e : Place) → ReadAt S.kmer i e → ShapedAt S i a → ShapedAt S (i + 1) (step S i a e)
  unfolding step
  step_shaped i a e r h = look_shaped i (join S (leave S a) e) e (join_some (leave S a) e) r (join_shaped i (leave S a) e (leave_shaped i a h))

  run_shaped : (i : ℕ) (a : Run) (es : List Place) → ReadFrom S.kmer i es → ShapedAt S i a → ShapedAt S (i + length es) (run_from S i a es)
  unfolding run_from
  run_shaped i a [] r h = subst (λ (z : ℕ). ShapedAt S z a) (omega arith) h
  run_shaped i a (e ∷ es) r h =
      subst (λ (z : ℕ). ShapedAt S z (run_from S (i + 1) (step S i a e) es)) (omega arith) (run_shaped (i + 1) (step S i a e) es r.1 (step_shaped i a e r.0 h))

  pub begin_shaped : ShapedAt S 0 (begin S)
  unfolding begin
  begin_shaped = record { canonical = tt; ends_below = tt; end_in = omega arith; start_ok = tt }

  pub places_canonical : (ps : List Place) → ReadFrom S.kmer 0 ps → Canonical (length ps) S.kmer (intervals_of_places S ps)
  unfolding intervals_of_places run
  places_canonical ps r =
      let a : Run = run S ps in
      saved_canonical S.kmer (length ps) a.start a.end a.saved
      (subst (λ (z : ℕ). ShapedAt S z (run_from S 0 (begin S) ps)) (omega arith) (run_shaped 0 (begin S) ps r begin_shaped))
