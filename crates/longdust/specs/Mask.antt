-- The paper, 'Both strands': the mask of a request.
use Rattle.std.specs.Prelude.{ℕ, ◌+◌, List, take, Float}
use Rattle.letters.specs.Code.{codes}
use Rattle.intervals.specs.declared.Interval.{Interval}
use Rattle.intervals.specs.declared.Marked.{Marked}
use Rattle.scans.specs.Setup.{Setup, drop_limit, max_test}
use Rattle.mask.specs.Mask.{mask_of, marked_mask_of}
use Rattle.longdust.specs.declared.LongdustOptions.{LongdustOptions}

-- What a run goes by: the options and the two tables.
unfoldable pub setup : LongdustOptions → List Float → List Float → Setup
setup o ln f =
    record {
      kmer = o.kmer;
      window_size = o.window_size;
      score_threshold = o.score_threshold;
      min_start_cnt = o.min_start_cnt;
      drop_limit = drop_limit o.xdrop o.window_size o.score_threshold;
      approx = o.approx;
      max_test = max_test o.window_size o.score_threshold ln f;
      ln = ln;
      f = f;
    }

-- The mask of a sequence of bytes.
unfoldable pub mask : LongdustOptions → List ℕ → List Float → List Float → List Interval
mask o sequence ln f = mask_of (setup o ln f) o.forward_only (codes sequence)

unfoldable pub marked_mask : LongdustOptions → List ℕ → List Float → List Float → List Marked
marked_mask o sequence ln f = marked_mask_of (setup o ln f) o.forward_only (codes sequence)

-- The mask by the entries of the tables that a run reads: ln entries 0..w and f entries 0..w+1.
abbrev pub mask_by : LongdustOptions → List ℕ → List Float → List Float → List Interval
mask_by o sequence ln f = mask o sequence (take (o.window_size + 1) ln) (take (o.window_size + 2) f)
