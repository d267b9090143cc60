use Rattle.report.proofs.Writing.{next}
use Rattle.report.proofs.text.Text.write_report.Goals as goal

-- `write_report` meets its contract: the lines and the count are written one after the other.
pub returns : goal.returns
returns c = next c.requires c.write_lines.ensures c.write_count.ensures
