use Rattle.std.proofs.Common.{◌≡◌, ◌+◌, ◌-◌}
use Rattle.scans.specs.Setup.{max_test, max_test_from}
use Rattle.scans.proofs.limits.max_test.Given as goal

abbrev pub invariant-loop-i : goal.invariant-loop-i
invariant-loop-i l = max_test l.window l.threshold l.ln l.f ≡ max_test_from l.threshold l.ln l.f (l.window + 1 - l.i) l.i l.s
