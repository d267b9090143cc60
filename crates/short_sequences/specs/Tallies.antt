-- All short sequences (L14): what the filling call makes of each, and the tallies over all of a size.
use Rattle.std.specs.Prelude.{ℕ, ◌+◌, Bool, false, not, ◌&&◌, ◌||◌, cond, List, [], ◌∷◌, ltb, eqb, length}
use Rattle.buffers.specs.Fill.{tabulate}
use Rattle.checks.specs.Checks.{Check, check, first}
use Rattle.letters.specs.Code.{codes}
use Rattle.intervals.specs.declared.Interval.{Interval}
use Rattle.intervals.specs.Interval.{covered_in}
use Rattle.tables.specs.Density.{density}
use Rattle.tables.specs.Tables.{ln_table, f_table}
use Rattle.longdust.specs.declared.LongdustOptions.{LongdustOptions}
use Rattle.longdust.specs.declared.Lent.{Lent}
use Rattle.longdust.specs.Options.{defaults}
use Rattle.longdust.specs.Checks.{refusal as call_refusal}
use Rattle.longdust.specs.Mask.{mask}
use Rattle.short_sequences.specs.Sequences.{sequences_of}

-- k = 1, w = 8, two strands, the other options as in `LongdustOptions::default`.
unfoldable pub short_options : LongdustOptions
short_options =
    record {
      window_size = 8;
      score_threshold = defaults.score_threshold;
      kmer = 1;
      gc = defaults.gc;
      xdrop = defaults.xdrop;
      min_start_cnt = defaults.min_start_cnt;
      approx = defaults.approx;
      forward_only = false;
    }

-- The buffers' sizes for up to 8 letters: R is (8 + 1) / (1 + 1) rounded down.
abbrev pub lent : Lent
lent =
    record {
      ln = 9;
      f = 10;
      queue = 8;
      window_counts = 4;
      scan_counts = 4;
      candidates = 8;
      codes = 8;
      reverse_codes = 8;
      forward_list = 4;
      reverse_list = 4;
      list = 4;
      marks = 4;
    }

-- What the filling call answers for a sequence s of up to 8 letters: its refusal number, 0 for none, and its mask.
unfoldable pub refusal_of : List ℕ → ℕ
refusal_of s = call_refusal short_options s lent

unfoldable pub mask_of : List ℕ → List Interval
mask_of s = mask short_options s (ln_table 8) (f_table 1 8 (density 1 short_options.gc (codes s)))

-- Refused, or leading to c masked letters.
unfoldable pub is_refused : List ℕ → Bool
is_refused s = not (eqb (refusal_of s) 0)

unfoldable pub masked_letters : List ℕ → ℕ
masked_letters s = covered_in (mask_of s) 0 (length s)

unfoldable pub leads_to : ℕ → List ℕ → Bool
leads_to c s = not (is_refused s) && eqb (masked_letters s) c

-- How many sequences of a list pass a test.
unfoldable pub passing : (List ℕ → Bool) → List (List ℕ) → ℕ
passing test [] = 0
passing test (s ∷ ss) = cond (test s) 1 0 + passing test ss

-- How many sequences of a list lead to 0, 1 .. m masked letters.
abbrev pub tallies_over : ℕ → List (List ℕ) → List ℕ
tallies_over m ss = tabulate (λ c. passing (leads_to c) ss) (m + 1)

-- Of all sequences of size m: the tallies, and how many are refused.
unfoldable pub tallies_of : ℕ → List ℕ
tallies_of m = tallies_over m (sequences_of m)

unfoldable pub refused_of : ℕ → ℕ
refused_of m = passing is_refused (sequences_of m)

-- The sum of numbers.
unfoldable pub total : List ℕ → ℕ
total [] = 0
total (n ∷ ns) = n + total ns

-- 22, m is outside 1..8, then 11, a buffer d of fewer than m + 1 entries.
abbrev pub checks : ℕ → List ℕ → List Check
checks m d = check 22 (ltb m 1 || ltb 8 m) ∷ check 11 (ltb (length d) (m + 1)) ∷ []

abbrev pub refusal : ℕ → List ℕ → ℕ
refusal m d = first (checks m d)
