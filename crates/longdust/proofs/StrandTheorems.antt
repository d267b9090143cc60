-- Both strands masked alone and their lists joined: for every accepted two-strand request the mask and the marks of `process_tables`; for a forward-only request its one list, joined with none, is.
use Rattle.std.proofs.Common.{◌≡◌, refl, sym, ap, ap₂, ◌∙◌, ℕ, ◌+◌, ◌≤◌, ◌<◌, arith, Bool, true, false, List, [], ◌∷◌, Ok, length, take, Float}
use borrow.Author.Tests.{le-ltb}
use Rattle.checks.specs.Checks.{first}
use Rattle.letters.specs.Code.{codes}
use Rattle.letters.proofs.Codes.{codes_length}
use Rattle.intervals.specs.declared.Interval.{Interval}
use Rattle.intervals.specs.declared.Marked.{Marked}
use Rattle.intervals.specs.Interval.{Ascending, Canonical}
use Rattle.intervals.specs.Merge.{merge_marked, ranges, marks_of, backwards}
use Rattle.intervals.proofs.Marks.{marked_alone}
use Rattle.intervals.proofs.Slice.{wrote_list}
use Rattle.intervals.proofs.Usual.{usual_agrees}
use Rattle.scans.specs.Range.{in_range}
use Rattle.step.proofs.Theorems.{strand_shape}
use Rattle.mask.specs.Mask.{marked_mask_of}
use Rattle.mask.proofs.Masks.{mask_ranges}
use Rattle.longdust.specs.declared.LongdustOptions.{LongdustOptions}
use Rattle.longdust.specs.declared.Answer.{Answer}
use Rattle.longdust.specs.Buffers.{Buffers, lengths}
use Rattle.longdust.specs.Checks.{request_checks, refusal, too_short_of}
use Rattle.longdust.specs.Mask.{setup, mask, marked_mask}
use Rattle.longdust.specs.Call.{ln_read, f_read, listed, listed_marks, Answered, Kept}
use Rattle.longdust.specs.Strand.{strand_list, StrandBuffers, strand_too_short, strand_refusal, StrandAnswered, strands_merged, merging_refusal}
use Rattle.longdust.specs.Terms.Inner.{Bounds}
use Rattle.longdust.proofs.Accept.{requested}
use Rattle.longdust.proofs.Merging.{Mergeable}
use Rattle.longdust.proofs.Theorems.{marks_are}

-- ---- Over the definitions, for any tables.
module _ (o : LongdustOptions) (s : List ℕ) (ln f : List Float) where
  pub both_strands_merged : o.forward_only ≡ false
      → strands_merged (length s) (strand_list o false s ln f) (strand_list o true s ln f)
      ≡ marked_mask o s (take (o.window_size + 1) ln) (take (o.window_size + 2) f)
  unfolding marked_mask marked_mask_of setup
  both_strands_merged e =
      rw e
      (ap (λ (n : ℕ). merge_marked (strand_list o false s ln f) (backwards n (strand_list o true s ln f))) (sym (codes_length s)))

  pub forward_strand_merged : 0 < o.kmer → o.forward_only ≡ true
      → strands_merged (length s) (strand_list o false s ln f) []
      ≡ marked_mask o s (take (o.window_size + 1) ln) (take (o.window_size + 2) f)
  unfolding marked_mask marked_mask_of backwards setup
  forward_strand_merged k e =
      rw e (marked_alone (length (codes s)) o.kmer (strand_list o false s ln f) k (strand_shape (setup o (take (o.window_size + 1) ln) (take (o.window_size + 2) f)) (codes s)))

-- ---- A request that no check refuses: each strand's is accepted where its buffers are long enough, and so is the joining.
pub strand_accepted : (o : LongdustOptions) (s : List ℕ) (b : Buffers) (c : StrandBuffers) → refusal o s (lengths b) ≡ 0
    → strand_too_short (length s) o.kmer o.window_size c ≡ false → strand_refusal o s c ≡ 0
strand_accepted o s b c e h =
    let short = too_short_of (length s) o.kmer o.window_size (lengths b) in
    let q = requested o s short e in
    ap (λ (t : Bool). first (request_checks o s t)) (h ∙ sym q.long) ∙ e

of_one_letter : (n k lo : ℕ) (is : List Interval) → 0 < k → Ascending n k lo is → Ascending n 1 lo is
of_one_letter n k lo [] p a = tt
of_one_letter n k lo (i ∷ is) p a = (a.0, omega (arith, a.1), a.2, of_one_letter n k (i.end + 1) is p a.3)

joining_accepted : {n : ℕ} {forward reverse : List Interval} {xs ys : ℕ} → Mergeable n forward reverse xs ys → merging_refusal n forward reverse xs ys ≡ 0
joining_accepted {n} {forward} {reverse} {xs} {ys} m =
    let size : ℕ = length forward + length reverse in
    rw (le-ltb 2147483647 n m.few, (usual_agrees n forward).1 m.forward_usual, (usual_agrees n reverse).1 m.reverse_usual, le-ltb xs size m.room, le-ltb ys size m.marks_room) refl

-- The lists `forward` and `reverse`, joined, make the mask of the answer r, which left the buffers b': no check refuses them, and the joined list and its marks are the mask's.
pub record MakesMask (s : List ℕ) (forward reverse : List Interval) (b' : Buffers) (r : Answer) : Type 0 where
  pub accepted : (xs ys : ℕ) → length forward + length reverse ≤ xs → length forward + length reverse ≤ ys → merging_refusal (length s) forward reverse xs ys ≡ 0
  pub list : ranges (strands_merged (length s) forward reverse) ≡ listed r b'
  pub marks : marks_of (strands_merged (length s) forward reverse) ≡ listed_marks r b'

-- A strand's request on the tables of b.
pub record SameTables (b : Buffers) (c : StrandBuffers) : Type 0 where
  pub ln : c.ln ≡ b.ln
  pub f : c.f ≡ b.f

module _ (o : LongdustOptions) (s : List ℕ) {b b' : Buffers} {r : Answer} (A : Answered Kept o s b b' (Ok r)) where
  kept_bounds : Bounds o
  kept_bounds = (requested o s (too_short_of (length s) o.kmer o.window_size (lengths b)) (sym A.number)).bounds

  few : length s ≤ 2147483647
  few = (requested o s (too_short_of (length s) o.kmer o.window_size (lengths b)) (sym A.number)).letters_high

  -- A strand's list, by the tables that the request read.
  strand_listed : {reverse : Bool} {c c' : StrandBuffers} {p : Answer} → StrandAnswered o reverse s c c' (Ok p) → SameTables b c
      → take p.count c'.list ≡ strand_list o reverse s b'.ln b'.f
  strand_listed {reverse} C t =
      C.accepted.list ∙ ap₂ (λ (m n : List Float). strand_list o reverse s m n) (t.ln ∙ sym A.tables.ln) (t.f ∙ sym A.tables.f)

  one_letter : {reverse : Bool} {c c' : StrandBuffers} {p : Answer} → StrandAnswered o reverse s c c' (Ok p) → Canonical (length s) 1 (take p.count c'.list)
  one_letter C =
      of_one_letter (length s) o.kmer 0 _ kept_bounds.kmer_low (rw C.accepted.list C.accepted.shape)

  made : (forward reverse : List Interval) → Canonical (length s) 1 forward → Canonical (length s) 1 reverse
      → strands_merged (length s) forward reverse ≡ marked_mask o s (ln_read o b') (f_read o b') → MakesMask s forward reverse b' r
  unfolding mask marked_mask
  made forward reverse c d e =
      record {
        accepted = λ xs ys h k. joining_accepted (record { few = few; forward_usual = c; reverse_usual = d; room = h; marks_room = k });
        list =
            ap (λ (ms : List Marked). ranges ms) e ∙ mask_ranges (setup o (ln_read o b') (f_read o b')) o.forward_only (codes s)
            ∙ sym (wrote_list A.accepted.buffers.list);
        marks = ap (λ (ms : List Marked). marks_of ms) e ∙ sym (marks_are A);
      }

  -- Both strands.
  pub strands_make_mask : o.forward_only ≡ false → {c c' d d' : StrandBuffers} {p q : Answer}
      → StrandAnswered o false s c c' (Ok p) → SameTables b c → StrandAnswered o true s d d' (Ok q) → SameTables b d
      → MakesMask s (take p.count c'.list) (take q.count d'.list) b' r
  strands_make_mask e C t D u =
      made _ _ (one_letter C) (one_letter D)
      (ap₂ (λ (is js : List Interval). strands_merged (length s) is js) (strand_listed C t) (strand_listed D u) ∙ both_strands_merged o s b'.ln b'.f e)

  -- Forward-only: the one list with its marks.
  pub forward_makes_mask : o.forward_only ≡ true → {c c' : StrandBuffers} {p : Answer}
      → StrandAnswered o false s c c' (Ok p) → SameTables b c → MakesMask s (take p.count c'.list) [] b' r
  forward_makes_mask e C t =
      made _ _ (one_letter C) tt
      (ap (λ (is : List Interval). strands_merged (length s) is []) (strand_listed C t) ∙ forward_strand_merged o s b'.ln b'.f kept_bounds.kmer_low e)

  -- A strand's flag is the request's.
  pub strand_flag : {reverse : Bool} {c c' : StrandBuffers} {p : Answer} → StrandAnswered o reverse s c c' (Ok p) → SameTables b c → p.in_range ≡ r.in_range
  strand_flag C t =
      C.accepted.flag
      ∙ ap₂ (λ (m n : List Float). in_range (setup o (take (o.window_size + 1) m) (take (o.window_size + 2) n))) (t.ln ∙ sym A.tables.ln) (t.f ∙ sym A.tables.f)
      ∙ sym A.accepted.flag
