-- The tiles before t were searched.
use Rattle.std.proofs.Common.{ℕ, ◌+◌, ◌*◌, ◌<◌, get_or}
use Rattle.strongest_list.specs.Terms.Tiles.{no_tile, span, TileKnows}
use Rattle.strongest_list.proofs.tiles.start_tiles.Given as goal

abbrev pub invariant-loop-t : goal.invariant-loop-t
invariant-loop-t l = (u : ℕ) → u < l.t → TileKnows l.request l.codes (u * span l.request) (u * span l.request + span l.request) (get_or l.tiles u no_tile)
