-- The paper, 'Tables and the program': the run of the program `track` on its letters.
use Rattle.std.specs.Prelude.{ℕ, List}
use Rattle.letters.specs.Code.{codes}
use Rattle.intervals.specs.declared.Interval.{Interval}
use Rattle.tables.specs.declared.GcOption.TheVariants.{Uniform}
use Rattle.tables.specs.Density.{density}
use Rattle.tables.specs.Tables.{ln_table, f_table}
use Rattle.longdust.specs.declared.Lent.{Lent}
use Rattle.longdust.specs.Options.{defaults}
use Rattle.longdust.specs.Checks.{refusal}
use Rattle.longdust.specs.Mask.{mask}

-- The most letters that are taken, and room for one more, so that too many show.
abbrev pub most_letters : ℕ
most_letters = 32768

abbrev pub letters_room : ℕ
letters_room = 32769

-- Room for their intervals, and for the longest text: a line of 12 bytes for each, and the count's line of 15.
abbrev pub list_room : ℕ
list_room = 4096

abbrev pub text_room : ℕ
text_room = 49167

-- The buffers' sizes for so many letters, k = 7 and w = 5,000.
abbrev pub lent : Lent
lent =
    record {
      ln = 5001;
      f = 5002;
      queue = 5000;
      window_counts = 16384;
      scan_counts = 16384;
      candidates = 5000;
      codes = most_letters;
      reverse_codes = most_letters;
      forward_list = list_room;
      reverse_list = list_room;
      list = list_room;
      marks = list_room;
    }

-- The refusal number of the letters s, 0 if they are accepted.
unfoldable pub contig_refusal : List ℕ → ℕ
contig_refusal s = refusal defaults s lent

-- The mask of the letters s, by the tables that the formulas give for k = 7 and w = 5,000.
unfoldable pub contig_mask : List ℕ → List Interval
contig_mask s = mask defaults s (ln_table 5000) (f_table 7 5000 (density 7 Uniform (codes s)))
