-- The paper, 'Tables and the program': `LongdustOptions::default` of the Rust.
use Rattle.std.specs.Prelude.{false, Some, Float}
use Rattle.std.specs.Float.{binary64}
use Rattle.std.specs.Float.Ieee.{of_bits}
use Rattle.tables.specs.declared.GcOption.TheVariants.{Uniform}
use Rattle.longdust.specs.declared.LongdustOptions.{LongdustOptions}

-- 0.6
abbrev pub threshold06 : Float
threshold06 = of_bits binary64 0x3fe3_3333_3333_3333

unfoldable pub defaults : LongdustOptions
defaults =
    record {
      window_size = 5000;
      score_threshold = threshold06;
      kmer = 7;
      gc = Uniform;
      xdrop = Some 50;
      min_start_cnt = 3;
      approx = false;
      forward_only = false;
    }
