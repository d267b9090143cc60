use Rattle.report.proofs.Lines.{list_none, list_fits, list_next}
use Rattle.report.proofs.text.Text.write_lines.Goals as goal

pub write_line-requires : goal.write_line-requires
write_line-requires c = list_fits c.loop-interval.invariant c.loop-interval-test.true c.requires

pub loop-interval-preserved : goal.loop-interval-preserved
loop-interval-preserved c = list_next c.loop-interval.invariant c.loop-interval-test.true c.requires c.write_line.ensures

pub loop-interval-init : goal.loop-interval-init
loop-interval-init c = list_none _ _
