use Rattle.std.proofs.Common.{length, ◌-◌}
use Rattle.scans.specs.Terms.Run.{entries_of}
use Rattle.deep.specs.Terms.Cells.{Held}
use Rattle.deep.specs.Terms.Told.{LowTo, ReadPart, Bends}
use Rattle.deep.proofs.Deep.older_low.Given as goal

abbrev pub invariant-loop-part : goal.invariant-loop-part
invariant-loop-part l = ReadPart l.scale l.oldest (entries_of l.ring) l.part
    × (Bends l.scale (length (entries_of l.ring)) → LowTo l.scale (entries_of l.ring) l.part.read)
    × Held l.scale l.oldest (entries_of l.ring) l.self

abbrev pub decreases-loop-part : goal.decreases-loop-part
decreases-loop-part l = l.ring.len - l.part.read
