-- the counts so far, and k over i
use Rattle.std.proofs.Common.{◌≡◌, ◌+◌, replicate}
use Rattle.buffers.specs.Fill.{tabulate}
use Rattle.buffers.proofs.Filling.{part}
use Rattle.floats.specs.Binary64.{zero64}
use Rattle.tables.specs.Density.{count_at}
use Rattle.tables.specs.Density as Density
use Rattle.tables.proofs.background.counts.Given as goal

abbrev pub invariant-loop-i : goal.invariant-loop-i
invariant-loop-i l =
    (l.binomial ≡ Density.binomial l.k l.i) × (l.count ≡ part (tabulate (count_at l.k) (l.k + 1)) (replicate 13 zero64) l.i)
