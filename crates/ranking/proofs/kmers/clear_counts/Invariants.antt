-- After i turns the counts of the first i places are 0.
use Rattle.std.proofs.Common.{◌≡◌}
use Rattle.letters.specs.Terms.Rolling.{kmer_after}
use Rattle.ranking.proofs.Counting.{Cleared}
use Rattle.ranking.proofs.kmers.clear_counts.Given as goal

abbrev pub invariant-loop-i : goal.invariant-loop-i
invariant-loop-i l =
    record {
      state_is : l.state ≡ kmer_after l.k l.codes l.i;
      cleared : Cleared l.k l.codes l.i l.counts;
    }
