use Rattle.std.proofs.Common.{◌≡◌, ◌*◌, ◌<◌, ◌^◌}
use Rattle.replay.specs.Words.{hex}
use Rattle.replay.proofs.words.Words.bits.Given as goal

abbrev pub invariant-loop-byte : goal.invariant-loop-byte
invariant-loop-byte l = record {
  value : l.bits ≡ hex l.word l.byte-index;
  small : l.bits < 2 ^ (4 * l.byte-index);
}
