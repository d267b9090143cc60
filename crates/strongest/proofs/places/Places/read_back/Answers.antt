-- Nothing is read yet.
use Rattle.std.proofs.Common.{arith}
use Rattle.strongest.proofs.Reading.{reads_none}
use Rattle.strongest.proofs.places.Places.read_back.Goals as goal

pub on-init : goal.on-init
on-init c = record { inside = omega arith; known = c.requires.known; reads = rw c.new-reading.ensures (reads_none _ _ _ _ _) }
