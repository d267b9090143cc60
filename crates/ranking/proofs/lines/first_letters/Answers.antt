use Rattle.std.proofs.Common.{ap, take, ◌∙◌}
use Rattle.std.proofs.lemmas.List.{take_min}
use Rattle.ranking.proofs.lines.first_letters.Goals as goal

pub returns : goal.returns
returns c = ap (λ n. take n c.args.letters.now) c.min.ensures ∙ take_min 40 c.args.letters.now
