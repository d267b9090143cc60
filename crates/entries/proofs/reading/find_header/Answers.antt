use Rattle.std.proofs.Common.{◌≡◌, ◌≢◌, ℕ, List, length, get_or, sym, ap, ◌∙◌, rules}
use Rattle.entries.proofs.Steps.{empty_is, empty_not, opens_is, opens_not, passed_start, passed_empty, passed_opens, passed_fault, passed_end}
use Rattle.entries.proofs.reading.find_header.Goals as goal

pub loop-init : goal.loop-init
loop-init g c = passed_start c.args.cr _

pub loop-preserved : goal.loop-preserved
loop-preserved g c =
    let none : length c.read_line.new.line.items ≡ 0 = search rules in
    passed_empty c.args.cr _ _ _ _ _ c.clear.ensures.items c.loop.invariant (rw c.in-Ok-true.field-0-test at c.in-Ok-true.ensures) (empty_is _ none)

pub returns-then-as_slice-eq62 : goal.returns-then-as_slice-eq62
returns-then-as_slice-eq62 g c =
    passed_opens c.args.cr _ _ _ _ _ c.clear.ensures.items c.loop.invariant (rw c.in-Ok-true.field-0-test at c.in-Ok-true.ensures)
    (opens_is c.read_line.new.line.items (ap (λ (l : List ℕ). get_or l 0 0) (sym c.as_slice.ensures.value) ∙ c.if-as_slice-eq62.true))

pub returns-in-Ok-true : goal.returns-in-Ok-true
returns-in-Ok-true g c =
    let some : length c.read_line.new.line.items ≢ 0 = search rules in
    passed_fault c.args.cr _ _ _ _ _ c.clear.ensures.items c.loop.invariant (rw c.in-Ok-true.field-0-test at c.in-Ok-true.ensures)
    (opens_not c.read_line.new.line.items (λ q. c.if-as_slice-eq62.false (ap (λ (l : List ℕ). get_or l 0 0) c.as_slice.ensures.value ∙ q)))
    (empty_not c.read_line.new.line.items some)

pub returns-in-Ok-false : goal.returns-in-Ok-false
returns-in-Ok-false g c = passed_end c.args.cr _ _ _ _ _ c.clear.ensures.items c.loop.invariant (rw c.in-Ok-false.field-0-test at c.in-Ok-false.ensures)
