use Rattle.short_sequences.proofs.Letters.{Counting}
use Rattle.short_sequences.proofs.count_letters.Given as goal

abbrev pub invariant-loop-interval : goal.invariant-loop-interval
invariant-loop-interval l = Counting l.n l.list l.interval-index l.letters
