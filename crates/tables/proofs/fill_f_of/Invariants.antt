-- the entries so far
use Rattle.std.proofs.Common.{◌≡◌}
use Rattle.buffers.proofs.Filling.{part}
use Rattle.tables.specs.Tables.{f_table}
use Rattle.tables.proofs.fill_f_of.Given as goal

abbrev pub invariant-loop-l : goal.invariant-loop-l
invariant-loop-l l = l.f ≡ part (f_table l.k l.w l.d) l.initial.f l.l
