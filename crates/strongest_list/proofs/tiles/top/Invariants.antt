-- Of the tiles before t, the one whose best no other beats.
use Rattle.strongest_list.specs.Terms.Tiles.{Top}
use Rattle.strongest_list.proofs.tiles.top.Given as goal

abbrev pub invariant-loop-t : goal.invariant-loop-t
invariant-loop-t l = Top l.request l.tiles l.t l.n l.best
