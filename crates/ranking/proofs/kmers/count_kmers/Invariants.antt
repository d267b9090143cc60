-- After i turns the first i places are counted.
use Rattle.std.proofs.Common.{◌≡◌, ◌^◌}
use Rattle.letters.specs.Terms.Rolling.{kmer_after}
use Rattle.ranking.specs.Kmers.{largest_count}
use Rattle.ranking.specs.Terms.Counting.{front, Known}
use Rattle.ranking.proofs.kmers.count_kmers.Given as goal

abbrev pub invariant-loop-i : goal.invariant-loop-i
invariant-loop-i l =
    record {
      state_is : l.state ≡ kmer_after l.k l.codes l.i;
      known : Known l.k l.codes l.i l.counts;
      most_is : l.most ≡ largest_count (4 ^ l.k) (front l.k l.codes l.i);
    }
