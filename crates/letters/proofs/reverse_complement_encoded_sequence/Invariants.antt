-- after i turns the buffer is `part (reverse_complement encoded) reversed i`
use Rattle.std.proofs.Common.{◌≡◌}
use Rattle.buffers.proofs.Filling.{part}
use Rattle.letters.specs.Code.{reverse_complement}
use Rattle.letters.proofs.reverse_complement_encoded_sequence.Given as goal

abbrev pub invariant-loop-i : goal.invariant-loop-i
invariant-loop-i l = l.reversed ≡ part (reverse_complement l.encoded) l.initial.reversed l.i
