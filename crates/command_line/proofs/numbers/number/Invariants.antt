use Rattle.std.proofs.Common.{◌≡◌, ◌≤◌, drop}
use Rattle.command_line.specs.Number.{read_on}
use Rattle.command_line.proofs.numbers.number.Given as goal

abbrev pub invariant-loop-byte : goal.invariant-loop-byte
invariant-loop-byte l = (read_on l.most 0 l.text ≡ read_on l.most l.n (drop l.byte-index l.text)) × (l.n ≤ l.most)
