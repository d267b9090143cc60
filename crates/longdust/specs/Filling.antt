-- The paper, 'Tables and the program': the two tables filled for a request, before it is made.
use Rattle.std.specs.Prelude.{ℕ, ◌+◌, Bool, ◌||◌, List, [], ◌∷◌, ltb, Float}
use Rattle.checks.specs.Checks.{Check, check, first}
use Rattle.checks.specs.Tests.{kmer_outside, window_below, window_above, threshold_bad}
use Rattle.letters.specs.Code.{codes}
use Rattle.tables.specs.Density.{density}
use Rattle.tables.specs.Tables.{ln_table, f_table}
use Rattle.longdust.specs.declared.LongdustOptions.{LongdustOptions}
use Rattle.longdust.specs.Checks.{gc_bad}

-- The tables of the options and of a sequence, which counts where GC is its own share.
abbrev pub ln_filled : LongdustOptions → List Float
ln_filled o = ln_table o.window_size

abbrev pub f_filled : LongdustOptions → List ℕ → List Float
f_filled o s = f_table o.kmer o.window_size (density o.kmer o.gc (codes s))

-- A lent slice is shorter than listed: the tables, or the codes of n letters.
abbrev pub tables_too_short : ℕ → ℕ → (ln f cs : ℕ) → Bool
tables_too_short n w ln f cs = ltb ln (w + 1) || ltb f (w + 2) || ltb cs n

-- Those of the masking calls' checks that concern the tables, in their order.
abbrev pub filling_checks : LongdustOptions → ℕ → (ln f cs : ℕ) → List Check
filling_checks o n ln f cs =
    check 1 (kmer_outside o.kmer)
    ∷ check 4 (window_below o.window_size o.kmer)
    ∷ check 5 (window_above o.window_size)
    ∷ check 6 (threshold_bad o.score_threshold)
    ∷ check 7 (gc_bad o.gc)
    ∷ check 11 (tables_too_short n o.window_size ln f cs)
    ∷ []

abbrev pub filling_refusal : LongdustOptions → ℕ → (ln f cs : ℕ) → ℕ
filling_refusal o n ln f cs = first (filling_checks o n ln f cs)
