-- The paper, 'Records' and 'Both strands': what the two calls answer and what they leave in the lent buffers.
use Rattle.std.specs.Prelude.{◌≡◌, Bool, true, List, ℕ, ◌+◌, ◌^◌, length, take, Float, Result, OnOk, OnErr, IfOk}
use Rattle.buffers.specs.Fill.{put}
use Rattle.buffers.specs.Free.{Free}
use Rattle.checks.specs.declared.refusal.Refusal.{Refusal}
use Rattle.checks.specs.Refusal.{number_of, count_by, flag_by, count_unless, flag_unless}
use Rattle.checks.specs.Tests.{most_intervals}
use Rattle.letters.specs.Code.{codes}
use Rattle.intervals.specs.declared.Interval.{Interval}
use Rattle.intervals.specs.Interval.{Canonical, Covers, Wrote}
use Rattle.intervals.specs.Merge.{marks_of}
use Rattle.intervals.specs.Marks.{Every}
use Rattle.scans.specs.Range.{in_range}
use Rattle.tables.specs.Density.{density}
use Rattle.tables.specs.Tables.{ln_table, f_table}
use Rattle.longdust.specs.declared.LongdustOptions.{LongdustOptions}
use Rattle.longdust.specs.declared.Answer.{Answer}
use Rattle.longdust.specs.Checks.{refusal}
use Rattle.longdust.specs.Mask.{setup, mask, marked_mask}
use Rattle.mask.specs.Mask.{Evident, EvidentMarked, ScansFindNoBetterShorter}
use Rattle.longdust.specs.Buffers.{Buffers, lengths}

-- The tables that a run reads: ln entries 0..w and f entries 0..w+1.
abbrev pub ln_read : LongdustOptions → Buffers → List Float
ln_read o b = take (o.window_size + 1) b.ln

abbrev pub f_read : LongdustOptions → Buffers → List Float
f_read o b = take (o.window_size + 2) b.f

-- R.
abbrev pub list_size : LongdustOptions → List ℕ → ℕ
list_size o s = most_intervals (length s) o.kmer

-- The intervals that an answer counts, in the final list.
abbrev pub listed : Answer → Buffers → List Interval
listed r b = take r.count b.list

-- And their marks.
abbrev pub listed_marks : Answer → Buffers → List ℕ
listed_marks r b = take r.count b.marks

-- The final list holds the mask, by the tables that the run reads, and the marks stand beside it; their other entries are unchanged.
-- The other buffers hold free content within the listed sizes.
pub record Masked (o : LongdustOptions) (s : List ℕ) (b b' : Buffers) (count : ℕ) : Type 0 where
  pub list : Wrote (mask o s (ln_read o b') (f_read o b')) b.list b'.list count
  pub marks : b'.marks ≡ put (marks_of (marked_mask o s (ln_read o b') (f_read o b'))) b.marks
  pub queue : Free o.window_size b.queue b'.queue
  pub window_counts : Free (4 ^ o.kmer) b.window_counts b'.window_counts
  pub scan_counts : Free (4 ^ o.kmer) b.scan_counts b'.scan_counts
  pub candidates : Free o.window_size b.candidates b'.candidates
  pub codes : Free (length s) b.codes b'.codes
  pub reverse_codes : Free (length s) b.reverse_codes b'.reverse_codes
  pub forward_list : Free (list_size o s) b.forward_list b'.forward_list
  pub reverse_list : Free (list_size o s) b.reverse_list b'.reverse_list

-- An accepted request. Shape: the intervals are nonempty, inside, ascending, a letter or more between.
-- Evidence: with the flag yes, every masked letter is evident on a strand scanned, and on the one strand that its interval's marks name alone.
-- Shorter: then too no shorter stretch is better than one that a scan finds.
pub record Accepted (o : LongdustOptions) (s : List ℕ) (b b' : Buffers) (r : Answer) : Type 0 where
  pub flag : r.in_range ≡ in_range (setup o (ln_read o b') (f_read o b'))
  pub buffers : Masked o s b b' r.count
  pub shape : Canonical (length s) o.kmer (listed r b')
  pub evidence : r.in_range ≡ true → (x : ℕ) → Covers (listed r b') x
      → Evident (setup o (ln_read o b') (f_read o b')) o.forward_only (codes s) x
  pub marked_evidence : r.in_range ≡ true
      → Every (EvidentMarked (setup o (ln_read o b') (f_read o b')) o.forward_only (codes s)) (marked_mask o s (ln_read o b') (f_read o b'))
  pub shorter : r.in_range ≡ true → ScansFindNoBetterShorter (setup o (ln_read o b') (f_read o b')) o.forward_only (codes s)

-- The tables after acceptance: as they were, or filled by their formulas, entries past w + 1 and w + 2 unchanged.
pub record Kept (o : LongdustOptions) (s : List ℕ) (b b' : Buffers) : Type 0 where
  pub ln : b'.ln ≡ b.ln
  pub f : b'.f ≡ b.f

pub record Filled (o : LongdustOptions) (s : List ℕ) (b b' : Buffers) : Type 0 where
  pub ln : b'.ln ≡ put (ln_table o.window_size) b.ln
  pub f : b'.f ≡ put (f_table o.kmer o.window_size (density o.kmer o.gc (codes s))) b.f

-- The count and the flag of an answer: count 0 and flag no for a refusal.
abbrev pub mask_count : Result Answer Refusal → ℕ
mask_count r = count_by (λ (a : Answer). a.count) r

abbrev pub mask_flag : Result Answer Refusal → Bool
mask_flag r = flag_by (λ (a : Answer). a.in_range) r

-- What both calls answer; `Tables` says what the tables hold after acceptance. A refusal changes no buffer.
pub record Answered (Tables : LongdustOptions → List ℕ → Buffers → Buffers → Type 0) (o : LongdustOptions) (s : List ℕ)
    (b b' : Buffers) (r : Result Answer Refusal) : Type 0 where
  pub number : number_of r ≡ refusal o s (lengths b)
  pub count : mask_count r ≡ count_unless (refusal o s (lengths b)) (length (mask o s (ln_read o b') (f_read o b')))
  pub flag : mask_flag r ≡ flag_unless (refusal o s (lengths b)) (in_range (setup o (ln_read o b') (f_read o b')))
  pub refused : OnErr r (b' ≡ b)
  pub accepted : IfOk r (Accepted o s b b')
  pub tables : OnOk r (Tables o s b b')
