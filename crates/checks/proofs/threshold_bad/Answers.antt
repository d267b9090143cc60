-- The formula; 1.0 / 0.0 computes to infinity.
use Rattle.std.proofs.Common.{refl}
use lib.Ieee.{div, of_bits}
use Rattle.checks.specs.Tests.{threshold_bad}
use Rattle.checks.proofs.threshold_bad.Goals as goal

pub returns : goal.returns
unfolding threshold_bad div of_bits
returns c = refl
