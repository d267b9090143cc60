use Rattle.std.proofs.Common.{◌≡◌, ◌∙◌, take}
use Rattle.report.specs.Text.{decimal}
use Rattle.report.proofs.Decimal.{decimal_digits}
use Rattle.report.proofs.Writing.{fits_as, adds_as}
use Rattle.report.proofs.text.Text.write_decimal.Goals as goal
use Rattle.report.proofs.text.Text.write_decimal.Goals.{After-decimal-count}

-- `write_decimal` meets its contract: the digits that are copied are `decimal n`.
digits_are : (c : After-decimal-count) → take c.decimal-count.result c.decimal-count.new.out ≡ decimal c.args.n
digits_are c = c.decimal-count.ensures.digits ∙ decimal_digits _ _ c.decimal-count.ensures.len

pub write_bytes-requires : goal.write_bytes-requires
write_bytes-requires c = fits_as (digits_are (goal.at.write_bytes-requires c).After-decimal-count) c.requires

pub returns : goal.returns
returns c = adds_as (digits_are (goal.at.returns c).After-decimal-count) c.write_bytes.ensures
