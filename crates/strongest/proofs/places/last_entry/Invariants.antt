-- `last_entry` meets its contract: after i turns the state is that of the first i letters.
use Rattle.letters.specs.Terms.Rolling.{kmer_after}
use Rattle.std.proofs.Common.{◌≡◌}
use Rattle.strongest.proofs.places.last_entry.Given as goal

abbrev pub invariant-loop-letter : goal.invariant-loop-letter
invariant-loop-letter l = l.state ≡ kmer_after l.kmer l.letters l.letter-index
