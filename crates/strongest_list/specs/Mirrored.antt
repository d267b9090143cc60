-- Terms of the mirror law: what is asked of the reverse complement, and tables that do not fall.
use Rattle.std.specs.Prelude.{ℕ, suc, ◌≤◌, ◌<◌, List, length, get_or}
use Rattle.intervals.specs.declared.Interval.{Interval}
use Rattle.intervals.specs.Merge.{backwards}
use Rattle.strongest_list.specs.Stretches.{Asked}

-- The same of another sequence, inside other regions.
abbrev pub over : Asked → List ℕ → List Interval → Asked
over A sequence regions =
    record {
      sequence = sequence;
      kmer = A.kmer;
      window_size = A.window_size;
      threshold = A.threshold;
      ln = A.ln;
      f = A.f;
      regions = regions;
      floor = A.floor;
    }

-- The regions turned: each [s, e) is [n - e, n - s).
abbrev pub turned : Asked → List ℕ → Asked
turned A sequence = over A sequence (backwards (length A.sequence) A.regions)

-- The entries 1..w do not fall.
pub record Rises (table : List ℕ) (w : ℕ) : Type 0 where
  pub step : (i : ℕ) → 0 < i → i < w → get_or table i 0 ≤ get_or table (suc i) 0
