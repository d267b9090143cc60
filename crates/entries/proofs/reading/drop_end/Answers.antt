use Rattle.std.proofs.Common.{◌≡◌, ◌-◌, ℕ, List, length, get_or, ◌∙◌, ap, sym}
use Rattle.entries.proofs.Lines.{drop_one, drop_other}
use Rattle.entries.proofs.reading.drop_end.Goals.{After-as_slice}
use Rattle.entries.proofs.reading.drop_end.Goals as goal

long : (c : After-as_slice) → c.len-n.result ≡ length c.args.line.now.items
long c = c.len-n.ensures ∙ sym c.as_slice.ensures.len ∙ ap (λ (l : List ℕ). length l) c.as_slice.ensures.value

pub returns-then-as_slice-n : goal.returns-then-as_slice-n
returns-then-as_slice-n c = λ front xs is e.
    c.truncate.ensures.items
    ∙ drop_one _ front xs _ c.args.byte is e _ (long (goal.at.returns-then-as_slice-n c).After-as_slice) c.if-n-from.false
    (ap (λ (l : List ℕ). get_or l (c.len-n.result - 1) 0) (sym c.as_slice.ensures.value) ∙ c.if-as_slice-n.true)

pub returns-else-as_slice-n : goal.returns-else-as_slice-n
returns-else-as_slice-n c = λ front xs is e.
    drop_other _ front xs _ c.args.byte is e _ (long (goal.at.returns-else-as_slice-n c).After-as_slice) c.if-n-from.false
    (λ q. c.if-as_slice-n.false (ap (λ (l : List ℕ). get_or l (c.len-n.result - 1) 0) c.as_slice.ensures.value ∙ q))
