-- The marks of a mask: what they say of the two strands' lists, that each interval has one, the evidence by marks, and the mirror.
use Rattle.std.proofs.Common.{◌≡◌, refl, sym, ap, ap₂, ◌∙◌, subst, ℕ, ◌+◌, ◌-◌, ◌<◌, arith, ⊎_elim, Bool, true, false, cond, List, [], ◌∷◌, ◌++◌, length, take, drop, take_at, T}
use mathlib.Core.List.{map-append}
use lib.ListN.{length-map}
use Rattle.buffers.specs.Fill.{put}
use Rattle.letters.specs.Code.{reverse_complement}
use Rattle.letters.proofs.Codes.{reverse_complement_length, reverse_complement_twice}
use Rattle.intervals.specs.declared.Marked.{Marked}
use Rattle.intervals.specs.declared.Interval.{Interval}
use Rattle.intervals.specs.Interval.{Canonical, Covers}
use Rattle.intervals.specs.Merge.{merge_marked, range, ranges, mark_of, marks_of, backwards, flip_marked, backwards_marked}
use Rattle.intervals.specs.Marks.{Every, Told, ToldLetters}
use Rattle.intervals.proofs.Shape.{covers_below}
use Rattle.intervals.proofs.Backward.{backwards_canonical, backwards_covers}
use Rattle.intervals.proofs.Marks.{every_map, merge_told, merge_letters, marked_mirror}
use Rattle.scans.specs.Setup.{Setup}
use Rattle.step.specs.Step.{intervals_of}
use Rattle.scans.specs.Range.{in_range, CheckedSetup}
use Rattle.step.proofs.Theorems.{strand_shape, strand_evidence}
use Rattle.mask.specs.Mask.{marked_mask_of, OtherStrand, EvidentMarked, exchanged, backwards_marks}
use Rattle.mask.specs.Terms.Both.{other_intervals}
use Rattle.mask.proofs.Masks.{other_shape, others_shape, marked_merged}

-- ---- What the marks say of the forward list and of the other strand's, read backwards.
module _ (S : Setup) (b : Bool) (s : List ℕ) (k : 0 < S.kmer) where
  abbrev across : List Interval
  across = backwards (length s) (other_intervals S b s)

  across_shape : Canonical (length s) S.kmer across
  across_shape = backwards_canonical (length s) S.kmer (other_intervals S b s) k (others_shape S b s)

  pub mask_told : Every (Told (intervals_of S s) across) (marked_mask_of S b s)
  mask_told =
      subst (λ (ms : List Marked). Every (Told (intervals_of S s) across) ms) (marked_merged S b s k)
      (merge_told (length s) S.kmer (intervals_of S s) across k (strand_shape S s) across_shape)

  pub mask_letters : Every (ToldLetters (intervals_of S s) across) (marked_mask_of S b s)
  mask_letters =
      subst (λ (ms : List Marked). Every (ToldLetters (intervals_of S s) across) ms) (marked_merged S b s k)
      (merge_letters (length s) S.kmer (intervals_of S s) across k (strand_shape S s) across_shape)

-- ---- Evidence by marks.
abbrev byte : Bool → Bool → ℕ
byte f r = cond f (cond r 3 1) (cond r 2 0)

only_forward : (f r : Bool) → byte f r ≡ 1 → T r → ⊥
only_forward true true e t = let z : ◌≡◌ {A = ℕ} 3 1 = e in omega (arith, z)
only_forward true false e t = t
only_forward false true e t = let z : ◌≡◌ {A = ℕ} 2 1 = e in omega (arith, z)
only_forward false false e t = t

only_reverse : (f r : Bool) → byte f r ≡ 2 → T f → ⊥
only_reverse true true e t = let z : ◌≡◌ {A = ℕ} 3 2 = e in omega (arith, z)
only_reverse true false e t = let z : ◌≡◌ {A = ℕ} 1 2 = e in omega (arith, z)
only_reverse false true e t = t
only_reverse false false e t = t

module _ (S : Setup) (s : List ℕ) (k : 0 < S.kmer) (a : CheckedSetup S) (t : T (in_range S)) (l : length s < 2147483648) where
  -- A letter of the other strand's list, read backwards.
  other_evidence : (b : Bool) (x : ℕ) → Covers (across S b s k) x → OtherStrand S b s x
  unfolding backwards
  other_evidence true x c = absurd c
  other_evidence false x c =
      let n = length s in
      let G = intervals_of S (reverse_complement s) in
      let below = covers_below n S.kmer x 0 (backwards n G) (across_shape S false s k) c in
      let y = n - 1 - x in
      let q : x + y + 1 ≡ n = omega arith in
      record {
        scanned = refl;
        letter = y;
        across = q;
        evidence = strand_evidence S (reverse_complement s) a t (subst (λ (m : ℕ). m < 2147483648) (sym (reverse_complement_length s)) l) y ((backwards_covers n x y G q).0 c);
      }

  pub marked_evidence : (b : Bool) → Every (EvidentMarked S b s) (marked_mask_of S b s)
  marked_evidence b =
      every_map
      (λ m h.
      record {
        forward = λ e x i. ⊎_elim (λ c. strand_evidence S s a t l x c) (λ c. absurd (only_forward m.forward m.reverse e (h.reverse x i c))) (h.covered x i);
        reverse = λ e x i. ⊎_elim (λ c. absurd (only_reverse m.forward m.reverse e (h.forward x i c))) (λ c. other_evidence b x c) (h.covered x i);
      })
      (marked_mask_of S b s) (mask_letters S b s k)

-- ---- Mirror, for any tables: the mask of the reverse complement is the mask read backwards, with the marks exchanged.
pub marked_mask_mirror : (S : Setup) (s : List ℕ) → 0 < S.kmer → marked_mask_of S false (reverse_complement s) ≡ backwards_marked (length s) (marked_mask_of S false s)
unfolding marked_mask_of
marked_mask_mirror S s k =
    let n = length s in
    let F = intervals_of S s in
    let G = intervals_of S (reverse_complement s) in
    ap₂ (λ (m : ℕ) (u : List ℕ). merge_marked G (backwards m (intervals_of S u))) (reverse_complement_length s) (reverse_complement_twice s)
    ∙ marked_mirror n S.kmer F G k (strand_shape S s) (other_shape S s)

exchanged_mark : (f r : Bool) → byte r f ≡ exchanged (byte f r)
exchanged_mark true true = refl
exchanged_mark true false = refl
exchanged_mark false true = refl
exchanged_mark false false = refl

pub marks_backwards : (n : ℕ) (ms : List Marked) → marks_of (backwards_marked n ms) ≡ backwards_marks (marks_of ms)
unfolding backwards_marked backwards_marks
marks_backwards n [] = refl
marks_backwards n (m ∷ ms) =
    map-append mark_of (backwards_marked n ms) (flip_marked n m ∷ [])
    ∙ ap₂ (λ (xs : List ℕ) (x : ℕ). xs ++ x ∷ []) (marks_backwards n ms) (exchanged_mark m.forward m.reverse)

-- The marks in the front of a slice.
pub marks_held : (ms : List Marked) (ys ys' : List ℕ) (count : ℕ) → ys' ≡ put (marks_of ms) ys → count ≡ length (ranges ms) → take count ys' ≡ marks_of ms
marks_held ms ys ys' count w c =
    ap (λ (z : List ℕ). take count z) w
    ∙ take_at (marks_of ms) (drop (length (marks_of ms)) ys) count (length-map ms mark_of ∙ sym (length-map ms range) ∙ sym c)
