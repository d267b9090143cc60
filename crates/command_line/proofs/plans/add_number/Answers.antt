use Rattle.std.proofs.Common.{◌≡◌, subst, ◌∙◌, ℕ, List, ◌++◌, OnOk}
use Rattle.report.proofs.Decimal.{decimal_digits}
use Rattle.command_line.specs.Plan.{line}
use Rattle.command_line.proofs.plans.add_number.Goals as goal

pub returns : goal.returns
returns c =
    subst (λ (d : List ℕ). OnOk c.add_line.result (c.add_line.new.text.items ≡ c.args.text.now.items ++ line c.args.what d))
    (c.decimal-count.ensures.digits ∙ decimal_digits _ _ c.decimal-count.ensures.len) c.add_line.ensures
