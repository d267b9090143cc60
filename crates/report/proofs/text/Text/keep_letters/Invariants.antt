use Rattle.std.proofs.Common.{◌≡◌}
use Rattle.report.proofs.Letters.{Keeping}
use Rattle.report.proofs.text.Text.keep_letters.Given as goal

abbrev pub invariant-loop-byte : goal.invariant-loop-byte
invariant-loop-byte l = record {
  keeping : Keeping l.block l.initial.self.bytes.now l.initial.self.len l.self.bytes.now l.self.len l.byte-index;
  same : l.self.bytes.ghost_name ≡ l.initial.self.bytes.ghost_name;
}
