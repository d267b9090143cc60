use Rattle.std.proofs.Common.{◌-◌, ◌/◌}
use Rattle.scans.specs.Terms.Run.{entries_of}
use Rattle.deep.specs.Terms.Blocks.{Blocked}
use Rattle.deep.proofs.Walks.{Walks}
use Rattle.deep.proofs.Deep.raise.Given as goal

abbrev pub invariant-loop-turn : goal.invariant-loop-turn
invariant-loop-turn l =
    Walks l.oldest (entries_of l.ring) (l.ring.len - 1) (l.entry / 2) l.self.heads.now l.self.cells.now l.met.times l.met.next l.turn
    × Blocked l.scale l.self.cells.now l.self.blocks.now
