use Rattle.std.proofs.Common.{◌≡◌, ◌-◌}
use Rattle.scans.specs.Terms.Shape.{f_step, usual_to}
use Rattle.scans.proofs.limits.is_usual.Given as goal

abbrev pub invariant-loop-m : goal.invariant-loop-m
invariant-loop-m l = (l.ok ≡ usual_to l.ln l.f (l.m - 1)) × (l.step ≡ f_step l.f (l.m - 1))
