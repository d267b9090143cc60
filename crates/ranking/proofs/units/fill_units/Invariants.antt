-- The entries before i.
use Rattle.std.specs.Prelude.{◌≡◌, map, take}
use Rattle.ranking.specs.Units.{units}
use Rattle.ranking.proofs.units.fill_units.Given as goal

abbrev pub invariant-loop-i : goal.invariant-loop-i
invariant-loop-i l = l.list.items ≡ map units (take l.i l.table)
