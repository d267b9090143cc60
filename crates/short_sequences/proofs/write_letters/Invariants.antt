use Rattle.short_sequences.proofs.Writing.{Writing}
use Rattle.short_sequences.proofs.write_letters.Given as goal

abbrev pub invariant-loop-place : goal.invariant-loop-place
invariant-loop-place l = Writing l.index l.initial.letters l.place-index l.share l.rest l.letters
