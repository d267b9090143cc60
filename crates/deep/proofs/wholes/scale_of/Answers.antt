use Rattle.std.proofs.Common.{arith}
use Rattle.scans.specs.Terms.Run.{as_setup}
use Rattle.deep.proofs.Finding.{narrow_of}
use Rattle.deep.proofs.wholes.scale_of.Goals as goal

pub returns-clause-narrow : goal.returns-clause-narrow
returns-clause-narrow c u =
    narrow_of _ (as_setup c.args.setup.now) (record { t_is = c.whole.ensures; ln_is = c.fill_wholes.ensures; f_is = c.fill_wholes-2.ensures }) (omega (arith, c.requires.ln_room, c.fill_wholes.auto.table)) u
