-- The tiles before t are marked, the others as they were.
use Rattle.std.proofs.Common.{ℕ, ◌≡◌, ◌<◌, ◌≤◌, get_or}
use Rattle.strongest_list.specs.Terms.Tiles.{no_tile, staled}
use Rattle.strongest_list.proofs.tiles.mark.Given as goal

abbrev pub invariant-loop-t : goal.invariant-loop-t
invariant-loop-t l =
    record {
      done : (u : ℕ) → u < l.t → get_or l.tiles u no_tile ≡ staled l.kmer l.from l.to (get_or l.initial.tiles u no_tile);
      left : (u : ℕ) → l.t ≤ u → get_or l.tiles u no_tile ≡ get_or l.initial.tiles u no_tile;
    }
