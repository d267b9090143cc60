-- `clear_counts` meets its contract: after i turns the counts of the first i places read are 0.
use Rattle.strongest.proofs.Counting.{Cleared}
use Rattle.strongest.proofs.places.Places.clear_counts.Given as goal

abbrev pub invariant-loop-i : goal.invariant-loop-i
invariant-loop-i l = Cleared l.self l.i l.counts
