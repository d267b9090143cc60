use Rattle.std.proofs.Common.{ap, ◌∙◌}
use Rattle.report.proofs.Writing.{adds_as}
use Rattle.contig.specs.Printed.{printed}
use Rattle.contig.proofs.Printed.{printed_held}
use Rattle.contig.proofs.write_held.Goals as goal

-- `write_held` meets its contract: the letters held print what all bytes do.
pub returns : goal.returns
returns c = λ bytes k. adds_as (ap printed c.written.ensures ∙ printed_held c.requires.room k) c.write_answer.ensures
