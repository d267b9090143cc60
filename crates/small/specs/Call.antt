-- The small profile: the mask that its call writes.
use Rattle.std.specs.Prelude.{ℕ, List}
use Rattle.letters.specs.Code.{codes}
use Rattle.intervals.specs.declared.Interval.{Interval}
use Rattle.tables.specs.Density.{density}
use Rattle.tables.specs.Tables.{ln_table, f_table}
use Rattle.longdust.specs.declared.LongdustOptions.{LongdustOptions}
use Rattle.longdust.specs.Mask.{mask}

-- The mask that the filling call gives, by the tables of the formulas.
unfoldable pub filled_mask : LongdustOptions → List ℕ → List Interval
filled_mask o s =
    mask o s (ln_table o.window_size) (f_table o.kmer o.window_size (density o.kmer o.gc (codes s)))
