-- after i turns the first i letters are copied
use Rattle.std.proofs.Common.{◌≡◌}
use Rattle.buffers.proofs.Filling.{part}
use Rattle.masked_copy.proofs.copy_letters.Given as goal

abbrev pub invariant-loop-i : goal.invariant-loop-i
invariant-loop-i l = l.copy ≡ part l.sequence l.initial.copy l.i
