-- after i turns the buffer is `part (reverse_complement (codes sequence)) encoded i`
use Rattle.std.proofs.Common.{◌≡◌}
use Rattle.buffers.proofs.Filling.{part}
use Rattle.letters.specs.Code.{codes, reverse_complement}
use Rattle.letters.proofs.encode_reverse_complement.Given as goal

abbrev pub invariant-loop-i : goal.invariant-loop-i
invariant-loop-i l = l.encoded ≡ part (reverse_complement (codes l.sequence)) l.initial.encoded l.i
