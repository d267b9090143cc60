use Rattle.std.proofs.Common.{sym, ◌∙◌}
use Rattle.questions.proofs.Call.{list_usual}
use Rattle.questions.proofs.UsualList.new.Goals as goal

pub invariant_of-result : goal.invariant_of-result
invariant_of-result c =
    record {
      usual = list_usual _ _ (sym c.too_many_letters.ensures ∙ c.if-too_many_letters.false) (sym c.is_usual.ensures ∙ c.if-not-is_usual.false);
    }
