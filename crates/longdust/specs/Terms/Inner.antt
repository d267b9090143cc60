-- The terms of the inner functions' contracts: what the checks leave known of a request, and what the parts of a run answer.
use Rattle.std.specs.Prelude.{◌≡◌, false, List, ℕ, ◌+◌, ◌^◌, ◌≤◌, Float}
use Rattle.checks.specs.Tests.{threshold_bad, most_intervals}
use Rattle.letters.specs.Code.{codes}
use Rattle.scans.specs.declared.Params.{Params}
use Rattle.scans.specs.Range.{CheckedSetup}
use Rattle.scans.specs.Terms.Numbers.{setup_of}
use Rattle.scans.specs.Terms.Shape.{Shaped}
use Rattle.longdust.specs.declared.LongdustOptions.{LongdustOptions}
use Rattle.longdust.specs.declared.Lent.{Lent}
use Rattle.longdust.specs.declared.Answer.{Answer}
use Rattle.longdust.specs.Mask.{setup}
use Rattle.longdust.specs.Buffers.{Buffers}
use Rattle.longdust.specs.Call.{Accepted}

-- ---- A request that no check refuses.
pub record Bounds (o : LongdustOptions) : Type 0 where
  pub kmer_low : 1 ≤ o.kmer
  pub kmer_high : o.kmer ≤ 12
  pub window_low : o.kmer + 1 ≤ o.window_size
  pub window_high : o.window_size ≤ 65535
  pub threshold_good : threshold_bad o.score_threshold ≡ false
  pub start_low : 2 ≤ o.min_start_cnt

-- Enough of each buffer for n letters.
pub record Enough (n k w : ℕ) (b : Lent) : Type 0 where
  pub ln : w + 1 ≤ b.ln
  pub f : w + 2 ≤ b.f
  pub queue : w ≤ b.queue
  pub window_counts : 4 ^ k ≤ b.window_counts
  pub scan_counts : 4 ^ k ≤ b.scan_counts
  pub candidates : w ≤ b.candidates
  pub codes : n ≤ b.codes
  pub reverse_codes : n ≤ b.reverse_codes
  pub forward_list : most_intervals n k ≤ b.forward_list
  pub reverse_list : most_intervals n k ≤ b.reverse_list
  pub list : most_intervals n k ≤ b.list
  pub marks : most_intervals n k ≤ b.marks

pub record Admitted (o : LongdustOptions) (n : ℕ) (b : Lent) : Type 0 where
  pub bounds : Bounds o
  pub letters_low : o.kmer + 1 ≤ n
  pub letters_high : n ≤ 2147483647
  pub enough : Enough n o.kmer o.window_size b

-- ---- The run.
-- The numbers p make the setup of the options; every float that it reads is one of 64 bits; and the tables are of the usual shape if p says so.
pub record Prepared (o : LongdustOptions) (ln f : List Float) (p : Params) : Type 0 where
  pub setup_is : setup_of p ln f ≡ setup o ln f
  pub floats : CheckedSetup (setup o ln f)
  pub shaped : Shaped p ln f

-- The run on the codes cs of an accepted request.
pub record Ran (o : LongdustOptions) (cs : List ℕ) (b b' : Buffers) (r : Answer) : Type 0 where
  pub accepted : (sequence : List ℕ) → cs ≡ codes sequence → Accepted o sequence b b' r
