use Rattle.report.proofs.Writing.{next}
use Rattle.report.proofs.text.Text.write_line.Goals as goal

pub returns : goal.returns
returns c = next c.requires c.write_decimal.ensures c.write_numbered.ensures
