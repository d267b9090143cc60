use Rattle.std.proofs.Common.{◌≡◌, length}
use Rattle.short_sequences.proofs.Tallying.{Tallying}
use Rattle.short_sequences.proofs.tally_all.Given as goal

abbrev pub invariant-loop-index : goal.invariant-loop-index
invariant-loop-index l = Tallying (length l.initial.letters) l.index l.refused l.tallies × (length l.letters ≡ length l.initial.letters)
