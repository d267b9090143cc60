-- The run in the profile's own work space.
use Rattle.std.specs.Prelude.{ℕ, ◌≡◌, false, List, length}
use Rattle.intervals.specs.declared.Interval.{Interval}
use Rattle.intervals.specs.Interval.{Canonical, Wrote}
use Rattle.longdust.specs.declared.LongdustOptions.{LongdustOptions}
use Rattle.longdust.specs.declared.Lent.{Lent}
use Rattle.longdust.specs.Checks.{refusal}
use Rattle.small.specs.Profile.{not_uniform}
use Rattle.small.specs.Call.{filled_mask}

-- The sizes of the work space: those of k = 6, w = 4,096 and n = 4,096, and lists as long as those of k = 1.
abbrev pub lent : Lent
lent =
    record {
      ln = 4097;
      f = 4098;
      queue = 4096;
      window_counts = 4096;
      scan_counts = 4096;
      candidates = 4096;
      codes = 4096;
      reverse_codes = 4096;
      forward_list = 2048;
      reverse_list = 2048;
      list = 2048;
      marks = 2048;
    }

-- A request that the masking calls accept in the work space, with uniform GC. Not a field of a type: it is of options and letters together.
pub record Asked (o : LongdustOptions) (s : List ℕ) : Type 0 where
  pub accepted : refusal o s lent ≡ 0
  pub gc : not_uniform o.gc ≡ false

-- The run left its list in xs', which was xs.
pub record Ran (o : LongdustOptions) (s : List ℕ) (xs xs' : List Interval) (count : ℕ) : Type 0 where
  pub list : Wrote (filled_mask o s) xs xs' count
  pub shape : Canonical (length s) o.kmer (filled_mask o s)
