use Rattle.std.proofs.Common.{arith, subst, sym, ◌*◌, ◌+◌}
use Rattle.strongest_list.specs.Terms.Tiles.{TileKnows, span}
use Rattle.strongest_list.specs.declared.tiles.Tile.{Tile}
use Rattle.strongest_list.proofs.Tiling.{searched}
use Rattle.strongest_list.proofs.tiles.search_tile.Goals as goal

pub returns-clause-knows : goal.returns-clause-knows
returns-clause-knows c =
    let q = c.args.request.now in
    let lo = c.args.t * span q in
    subst (λ (x : Tile). TileKnows q c.args.codes.now lo (lo + span q) x) (sym c.tile_of.ensures)
    (searched q c.args.codes.now lo c.min-hi.result c.best_between.result c.requires.agrees (omega (arith, c.requires.searchable.kmer_low)) c.min-hi.ensures c.best_between.ensures)
