-- The tiles are known, t is the top one, and each turn leaves fewer stale.
use Rattle.std.proofs.Common.{length}
use Rattle.strongest_list.specs.Terms.Tiles.{Knows, Top, stale_count}
use Rattle.strongest_list.proofs.tiles.next_best.Given as goal

abbrev pub invariant-again : goal.invariant-again
invariant-again l = record { knows : Knows l.request l.codes l.tiles; top : Top l.request l.tiles (length l.tiles) (length l.tiles) l.t }

abbrev pub decreases-again : goal.decreases-again
decreases-again l = stale_count l.tiles
