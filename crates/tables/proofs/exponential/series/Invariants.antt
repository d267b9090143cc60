-- what is left of the countdown
use Rattle.std.proofs.Common.{◌≡◌}
use Rattle.tables.specs.Countdown.{countdown}
use Rattle.tables.specs.Exp.{exp_step, exp_series}
use Rattle.tables.proofs.exponential.series.Given as goal

abbrev pub invariant-loop-d : goal.invariant-loop-d
invariant-loop-d l = countdown (exp_step l.v) l.d l.h ≡ exp_series l.v
