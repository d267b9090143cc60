use Rattle.report.proofs.Writing.{fits_next, next}
use Rattle.report.proofs.text.Text.write_numbered.Goals as goal

-- `write_numbered` meets its contract: three texts are written one after the other.
pub returns : goal.returns
returns c = let W = c.write_bytes.ensures in next c.requires W (next (fits_next c.requires W) c.write_decimal.ensures c.write_bytes-2.ensures)
