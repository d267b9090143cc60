use Rattle.std.proofs.Common.{arith}
use Rattle.intervals.proofs.Pushing.{some_marked, some_counted, none_marked}
use Rattle.intervals.proofs.output.MarksOut.push.Goals as goal

pub returns-then-interval-clause-marks : goal.returns-then-interval-clause-marks
returns-then-interval-clause-marks c = some_marked c.args.interval c.if-interval.true c.args.count c.args.mark _ (omega (arith, some_counted c.args.interval c.if-interval.true))

pub returns-clause-marks : goal.returns-clause-marks
returns-clause-marks c = none_marked c.args.interval c.if-interval.false c.args.count c.args.mark _
