use Rattle.std.proofs.Common.{[], ◌≡◌, ◌∙◌, true, rules}
use Rattle.masker.specs.Run.{serves_all}
use Rattle.masker.proofs.maker.MaskerMaker.fill_tables.Goals as goal

pub returns-then-serves_all-clause-ln : goal.returns-then-serves_all-clause-ln
returns-then-serves_all-clause-ln c =
    let s : serves_all c.args.self.now.options ≡ true = search rules in
    c.in_ok-copy.ensures.ln ∙ c.as_slice.ensures.value ∙ (c.args.self.now.for_all [] s).0
