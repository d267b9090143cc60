-- What the bytes read have shown, with the bytes left, tells.
use Rattle.std.proofs.Common.{◌≡◌, drop, ◌||◌}
use Rattle.checks.specs.Tests.{any_high, any_other}
use Rattle.checks.proofs.find_bytes.Given as goal

abbrev pub invariant-loop-b : goal.invariant-loop-b
invariant-loop-b l = record {
  high : any_high l.sequence ≡ (l.high || any_high (drop l.b-index l.sequence));
  other : any_other l.sequence ≡ (l.other || any_other (drop l.b-index l.sequence));
}
