-- what is left of the countdown
use Rattle.std.proofs.Common.{◌≡◌}
use Rattle.tables.specs.Countdown.{countdown}
use Rattle.tables.specs.Ln.{ln_step, ln_series}
use Rattle.tables.proofs.logarithm.series.Given as goal

abbrev pub invariant-loop-j : goal.invariant-loop-j
invariant-loop-j l = countdown (ln_step l.q) l.j l.h ≡ ln_series l.q
