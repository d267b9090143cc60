-- After j turns the places up to the j-th of the block are read.
use Rattle.std.proofs.Common.{◌+◌}
use Rattle.strongest.specs.Terms.Reading.{Reads}
use Rattle.strongest.specs.Terms.Places.{Known}
use Rattle.strongest.proofs.places.Places.read_entries.Given as goal

abbrev pub invariant-loop-j : goal.invariant-loop-j
invariant-loop-j l =
    record {
      known : Known l.self (l.start + l.j) l.counts;
      reads : Reads l.self.kmer l.scoring.threshold l.scoring.ln.now l.scoring.f.now l.self.letters.now (l.start + l.j) l.reading;
    }
