-- The places before `start` are read.
use Rattle.std.proofs.Common.{◌-◌, ◌≤◌}
use Rattle.strongest.specs.Terms.Reading.{Reads}
use Rattle.strongest.specs.Terms.Places.{Known}
use Rattle.strongest.proofs.places.Places.read_back.Given as goal

abbrev pub invariant-on : goal.invariant-on
invariant-on l =
    record {
      inside : l.start ≤ l.self.steps;
      known : Known l.self l.start l.counts;
      reads : Reads l.self.kmer l.scoring.threshold l.scoring.ln.now l.scoring.f.now l.self.letters.now l.start l.reading;
    }

abbrev pub decreases-on : goal.decreases-on
decreases-on l = l.self.steps - l.start
