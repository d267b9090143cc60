use Rattle.std.proofs.Common.{◌∙◌, ap, ℕ, List, ◌++◌}
use Rattle.report.proofs.Decimal.{decimal_digits}
use Rattle.ranking.proofs.text.add_decimal.Goals as goal

pub returns : goal.returns
returns c =
    c.in_ok-extend_from_slice.ensures.items
    ∙ ap (λ (l : List ℕ). c.args.text.now.items ++ l) (c.decimal-count.ensures.digits ∙ decimal_digits _ _ c.decimal-count.ensures.len)
