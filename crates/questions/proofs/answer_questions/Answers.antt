use Rattle.std.proofs.Common.{sym, ◌∙◌, arith}
use Rattle.questions.proofs.Call.{all_askable}
use Rattle.questions.proofs.answer_questions.Goals as goal

pub answer_all-requires-clause-all_askable : goal.answer_all-requires-clause-all_askable
answer_all-requires-clause-all_askable c =
    all_askable c.args.n _ _ (omega (arith, c.count_blocks-blocks.ensures, c.if-summary-blocks.false)) c.count_blocks-blocks.ensures c.fill_summary.ensures
    _ c.in_ok-list.ensures.few (sym c.any_bad.ensures ∙ c.if-any_bad.false)
