-- the entries so far
use Rattle.std.proofs.Common.{◌≡◌}
use Rattle.buffers.proofs.Filling.{part}
use Rattle.tables.specs.Tables.{ln_table}
use Rattle.tables.proofs.fill_ln.Given as goal

abbrev pub invariant-loop-n : goal.invariant-loop-n
invariant-loop-n l = l.ln ≡ part (ln_table l.w) l.initial.ln l.n
