-- After y letters the entries of the places that they end are written.
use Rattle.std.proofs.Common.{length}
use Rattle.strongest.proofs.Backward.{Written}
use Rattle.strongest.proofs.places.Places.entries_back.Given as goal

abbrev pub invariant-loop-y : goal.invariant-loop-y
invariant-loop-y l = Written l.self.kmer l.self.letters.now l.i (length l.initial.entries) l.needed l.y l.state l.entries
