-- The entries up to i do not fall.
use Rattle.std.proofs.Common.{◌<◌}
use Rattle.strongest_list.specs.Mirrored.{Rises}
use Rattle.strongest_list.proofs.search.rises.Given as goal

abbrev pub invariant-loop-i : goal.invariant-loop-i
invariant-loop-i l = record { some : 0 < l.i; rises : Rises l.table l.i }
