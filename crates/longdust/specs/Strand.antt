-- The paper, 'Both strands': one strand masked alone, and the lists of both joined into the mask.
use Rattle.std.specs.Prelude.{◌≡◌, ℕ, ◌+◌, ◌^◌, Bool, not, cond, ◌||◌, List, [], ◌∷◌, ltb, length, take, Float, Result, OnErr, IfOk}
use Rattle.buffers.specs.Free.{Free}
use Rattle.checks.specs.declared.refusal.Refusal.{Refusal}
use Rattle.checks.specs.Checks.{Check, check, first}
use Rattle.checks.specs.Refusal.{number_of, count_unless, flag_unless}
use Rattle.checks.specs.Tests.{too_many_letters, most_intervals}
use Rattle.letters.specs.Code.{codes, reverse_complement}
use Rattle.intervals.specs.declared.Interval.{Interval}
use Rattle.intervals.specs.declared.Marked.{Marked}
use Rattle.intervals.specs.Interval.{Canonical, usual}
use Rattle.intervals.specs.Merge.{merge_marked, backwards}
use Rattle.scans.specs.declared.ForwardPosition.{ForwardPosition}
use Rattle.scans.specs.Range.{in_range}
use Rattle.step.specs.Step.{intervals_of}
use Rattle.longdust.specs.declared.LongdustOptions.{LongdustOptions}
use Rattle.longdust.specs.declared.Answer.{Answer}
use Rattle.longdust.specs.declared.one_strand.StrandSpace.{StrandSpace}
use Rattle.longdust.specs.Checks.{request_checks}
use Rattle.longdust.specs.Mask.{setup}
use Rattle.longdust.specs.Call.{mask_count, mask_flag}

-- ---- One strand. The codes of the sequence, or of its reverse complement.
abbrev pub strand_codes : Bool → List ℕ → List ℕ
strand_codes reverse s = cond reverse (reverse_complement (codes s)) (codes s)

-- Its list, in its own positions, by the entries of the tables that a run reads: ln entries 0..w and f entries 0..w+1.
abbrev pub strand_list : LongdustOptions → Bool → List ℕ → List Float → List Float → List Interval
strand_list o reverse s ln f =
    intervals_of (setup o (take (o.window_size + 1) ln) (take (o.window_size + 2) f)) (strand_codes reverse s)

-- The buffers of a call: its tables, its work space, its codes and where the list goes.
pub record StrandBuffers : Type 0 where
  pub ln : List Float
  pub f : List Float
  pub queue : List ℕ
  pub window_counts : List ℕ
  pub scan_counts : List ℕ
  pub candidates : List ForwardPosition
  pub codes : List ℕ
  pub list : List Interval

abbrev pub strand_buffers : List Float → List Float → List ℕ → List ℕ → List ℕ → List ForwardPosition → List ℕ → List Interval → StrandBuffers
strand_buffers ln f queue window_counts scan_counts candidates cs list =
    record {
      ln = ln;
      f = f;
      queue = queue;
      window_counts = window_counts;
      scan_counts = scan_counts;
      candidates = candidates;
      codes = cs;
      list = list;
    }

abbrev pub strand_lends : List Float → List Float → StrandSpace → StrandBuffers
strand_lends ln f w =
    strand_buffers ln f w.queue.now w.window_counts.now w.scan_counts.now w.candidates.now w.codes.now w.list.now

-- The same buffers are lent.
pub record SameStrandSpace (old new : StrandSpace) : Type 0 where
  pub queue : new.queue.ghost_name ≡ old.queue.ghost_name
  pub window_counts : new.window_counts.ghost_name ≡ old.window_counts.ghost_name
  pub scan_counts : new.scan_counts.ghost_name ≡ old.scan_counts.ghost_name
  pub candidates : new.candidates.ghost_name ≡ old.candidates.ghost_name
  pub codes : new.codes.ghost_name ≡ old.codes.ghost_name
  pub list : new.list.ghost_name ≡ old.list.ghost_name

-- A lent buffer is shorter than listed.
unfoldable pub strand_too_short : ℕ → ℕ → ℕ → StrandBuffers → Bool
strand_too_short n k w b =
    ltb (length b.ln) (w + 1) || ltb (length b.f) (w + 2) || ltb (length b.queue) w
    || ltb (length b.window_counts) (4 ^ k) || ltb (length b.scan_counts) (4 ^ k) || ltb (length b.candidates) w
    || ltb (length b.codes) n || ltb (length b.list) (most_intervals n k)

-- The checks of the masking calls in their order, the last of the buffers of one strand.
abbrev pub strand_refusal : LongdustOptions → List ℕ → StrandBuffers → ℕ
strand_refusal o s b = first (request_checks o s (strand_too_short (length s) o.kmer o.window_size b))

-- An accepted request: the strand's list stands in the front of the list; all else holds free content within the listed sizes.
pub record StrandAccepted (o : LongdustOptions) (reverse : Bool) (s : List ℕ) (b b' : StrandBuffers) (r : Answer) : Type 0 where
  pub list : take r.count b'.list ≡ strand_list o reverse s b.ln b.f
  pub count : r.count ≡ length (strand_list o reverse s b.ln b.f)
  pub flag : r.in_range ≡ in_range (setup o (take (o.window_size + 1) b.ln) (take (o.window_size + 2) b.f))
  pub shape : Canonical (length s) o.kmer (strand_list o reverse s b.ln b.f)
  pub ln : b'.ln ≡ b.ln
  pub f : b'.f ≡ b.f
  pub rows : Free (most_intervals (length s) o.kmer) b.list b'.list
  pub codes : Free (length s) b.codes b'.codes
  pub queue : Free o.window_size b.queue b'.queue
  pub window_counts : Free (4 ^ o.kmer) b.window_counts b'.window_counts
  pub scan_counts : Free (4 ^ o.kmer) b.scan_counts b'.scan_counts
  pub candidates : Free o.window_size b.candidates b'.candidates

-- What the call answers. A refusal changes no buffer.
pub record StrandAnswered (o : LongdustOptions) (reverse : Bool) (s : List ℕ) (b b' : StrandBuffers) (r : Result Answer Refusal) : Type 0 where
  pub number : number_of r ≡ strand_refusal o s b
  pub count : mask_count r ≡ count_unless (strand_refusal o s b) (length (strand_list o reverse s b.ln b.f))
  pub flag : mask_flag r
      ≡ flag_unless (strand_refusal o s b) (in_range (setup o (take (o.window_size + 1) b.ln) (take (o.window_size + 2) b.f)))
  pub refused : OnErr r (b' ≡ b)
  pub accepted : IfOk r (StrandAccepted o reverse s b b')

-- ---- Both lists joined, with marks: that of the reverse complement, in its own positions, is read backwards in n letters.
abbrev pub strands_merged : ℕ → List Interval → List Interval → List Marked
strands_merged n forward reverse = merge_marked forward (backwards n reverse)

-- 10, then 16, a list that is not of the usual kind in n letters, then 11: the list or the marks, of xs and ys entries, are shorter than both lists together.
abbrev pub merging_checks : ℕ → List Interval → List Interval → ℕ → ℕ → List Check
merging_checks n forward reverse xs ys =
    check 10 (too_many_letters n)
    ∷ check 16 (not (usual n forward))
    ∷ check 16 (not (usual n reverse))
    ∷ check 11 (ltb xs (length forward + length reverse) || ltb ys (length forward + length reverse))
    ∷ []

abbrev pub merging_refusal : ℕ → List Interval → List Interval → ℕ → ℕ → ℕ
merging_refusal n forward reverse xs ys = first (merging_checks n forward reverse xs ys)
