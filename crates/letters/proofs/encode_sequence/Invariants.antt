-- after i turns the buffer is `part (codes sequence) encoded i`
use Rattle.std.proofs.Common.{◌≡◌}
use Rattle.buffers.proofs.Filling.{part}
use Rattle.letters.specs.Code.{codes}
use Rattle.letters.proofs.encode_sequence.Given as goal

abbrev pub invariant-loop-i : goal.invariant-loop-i
invariant-loop-i l = l.encoded ≡ part (codes l.sequence) l.initial.encoded l.i
