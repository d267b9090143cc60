use Rattle.std.proofs.Common.{rules, sym, ◌∙◌}
use Rattle.command_line.proofs.Digits.{read_next, read_none, read_end, number_some}
use Rattle.command_line.proofs.numbers.number.Goals as goal

pub loop-byte-preserved : goal.loop-byte-preserved
loop-byte-preserved c =
    (c.loop-byte.invariant.0 ∙ read_next c.args.most c.loop-byte.n c.in-Some.next c.args.text.now c.loop-byte.byte-index (search rules) (search rules), search rules)

pub returns-in-None-clause-number : goal.returns-in-None-clause-number
returns-in-None-clause-number c =
    sym (number_some c.args.most c.args.text.now (sym c.is_empty.ensures ∙ c.if-is_empty.false) ∙ c.loop-byte.invariant.0
    ∙ read_none c.args.most c.loop-byte.n c.args.text.now c.loop-byte.byte-index (search rules) (search rules))

pub returns-clause-number : goal.returns-clause-number
returns-clause-number c =
    sym (number_some c.args.most c.args.text.now (sym c.is_empty.ensures ∙ c.if-is_empty.false) ∙ c.loop-byte.invariant.0
    ∙ read_end c.args.most c.loop-byte.n c.args.text.now c.loop-byte.byte-index c.loop-byte-test.false)
