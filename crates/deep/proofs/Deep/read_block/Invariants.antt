use Rattle.std.proofs.Common.{◌+◌, ◌*◌}
use Rattle.deep.proofs.Bounds.{ReadTo}
use Rattle.deep.proofs.Deep.read_block.Given as goal

abbrev pub invariant-loop-read : goal.invariant-loop-read
invariant-loop-read l = ReadTo l.scale l.self.cells.now (l.k * 64 + 64) (l.scale.threshold + l.phi) l.read l.reading.sum l.reading.line l.reading.top
