use Rattle.ranking.proofs.Parts.{cut_is}
use Rattle.ranking.proofs.lines.letters_in.Goals as goal

pub returns : goal.returns
returns c = cut_is c.args.i.start c.args.i.end _ _ c.args.sequence.now c.min.ensures c.min-2.ensures
