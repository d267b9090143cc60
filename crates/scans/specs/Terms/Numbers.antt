-- Terms of contracts: the code's numbers and tables as a setup.
use Rattle.std.specs.Prelude.{List, Float}
use Rattle.scans.specs.Setup.{Setup}
use Rattle.scans.specs.declared.Params.{Params}

-- The setup of the code's numbers and its two tables.
abbrev pub setup_of : Params → List Float → List Float → Setup
setup_of p ln f =
    record {
      kmer = p.kmer;
      window_size = p.window_size;
      score_threshold = p.score_threshold;
      min_start_cnt = p.min_start_cnt;
      drop_limit = p.drop_limit;
      approx = p.approx;
      max_test = p.max_test;
      ln = ln;
      f = f;
    }
