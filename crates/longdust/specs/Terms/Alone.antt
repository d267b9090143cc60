-- The terms of the inner functions' contracts where one strand is masked alone.
use Rattle.std.specs.Prelude.{◌≡◌, List, ℕ, ◌+◌, ◌^◌, ◌≤◌, length, take}
use Rattle.buffers.specs.Free.{Free}
use Rattle.checks.specs.Tests.{most_intervals}
use Rattle.intervals.specs.declared.Interval.{Interval}
use Rattle.scans.specs.Setup.{Setup}
use Rattle.scans.specs.Range.{in_range}
use Rattle.step.specs.Step.{intervals_of}
use Rattle.longdust.specs.declared.LongdustOptions.{LongdustOptions}
use Rattle.longdust.specs.declared.Answer.{Answer}
use Rattle.longdust.specs.Mask.{setup}
use Rattle.longdust.specs.Strand.{StrandBuffers}
use Rattle.longdust.specs.Terms.Inner.{Bounds}

-- Enough of each buffer for n letters.
pub record StrandEnough (n k w : ℕ) (b : StrandBuffers) : Type 0 where
  pub ln : w + 1 ≤ length b.ln
  pub f : w + 2 ≤ length b.f
  pub queue : w ≤ length b.queue
  pub window_counts : 4 ^ k ≤ length b.window_counts
  pub scan_counts : 4 ^ k ≤ length b.scan_counts
  pub candidates : w ≤ length b.candidates
  pub codes : n ≤ length b.codes
  pub list : most_intervals n k ≤ length b.list

-- A request that no check refuses.
pub record StrandAdmitted (o : LongdustOptions) (n : ℕ) (b : StrandBuffers) : Type 0 where
  pub bounds : Bounds o
  pub letters_high : n ≤ 2147483647
  pub enough : StrandEnough n o.kmer o.window_size b

-- The setup of a run by the tables of b.
abbrev pub setup_in : LongdustOptions → StrandBuffers → Setup
setup_in o b = setup o (take (o.window_size + 1) b.ln) (take (o.window_size + 2) b.f)

-- The list of the n codes in the front of their buffer.
abbrev pub list_in : LongdustOptions → ℕ → StrandBuffers → List Interval
list_in o n b = intervals_of (setup_in o b) (take n b.codes)

pub record StrandRan (o : LongdustOptions) (n : ℕ) (b b' : StrandBuffers) (r : Answer) : Type 0 where
  pub list : take r.count b'.list ≡ list_in o n b
  pub count : r.count ≡ length (list_in o n b)
  pub flag : r.in_range ≡ in_range (setup_in o b)
  pub codes : b'.codes ≡ b.codes
  pub rows : Free (most_intervals n o.kmer) b.list b'.list
  pub queue : Free o.window_size b.queue b'.queue
  pub window_counts : Free (4 ^ o.kmer) b.window_counts b'.window_counts
  pub scan_counts : Free (4 ^ o.kmer) b.scan_counts b'.scan_counts
  pub candidates : Free o.window_size b.candidates b'.candidates
