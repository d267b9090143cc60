-- the ratios so far
use Rattle.std.proofs.Common.{◌≡◌, ◌+◌, replicate}
use Rattle.buffers.specs.Fill.{tabulate}
use Rattle.buffers.proofs.Filling.{part}
use Rattle.floats.specs.Binary64.{zero64}
use Rattle.tables.specs.Density.{ratio_at}
use Rattle.tables.proofs.background.ratios.Given as goal

abbrev pub invariant-loop-i : goal.invariant-loop-i
invariant-loop-i l = l.ratio ≡ part (tabulate (ratio_at l.k l.gc) (l.k + 1)) (replicate 13 zero64) l.i
