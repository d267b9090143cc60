use Rattle.std.proofs.Common.{ℕ, List, ◌++◌, ◌∙◌, ap}
use Rattle.report.specs.Text.{size_line}
use Rattle.contigs_text.proofs.Starting.{too_many}
use Rattle.contigs_text.proofs.printing.make_text.Goals as goal

pub returns-then-limits-file : goal.returns-then-limits-file
returns-then-limits-file c =
    c.in_ok-extend_from_slice.ensures.items
    ∙ ap (λ (l : List ℕ). l ++ size_line) c.clear.ensures.items
    ∙ too_many c.args.limits c.args.options c.args.file.now c.if-limits-file.true
