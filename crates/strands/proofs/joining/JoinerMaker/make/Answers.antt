use Rattle.strands.proofs.Merged.{refused_joined}
use Rattle.strands.proofs.joining.JoinerMaker.make.Goals as goal

pub returns-in-Err-clause-makes : goal.returns-in-Err-clause-makes
returns-in-Err-clause-makes c = refused_joined _ _ _ c.args.letters.now _ c.in-Err.ensures
