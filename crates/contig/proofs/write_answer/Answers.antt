use Rattle.std.proofs.Common.{◌∙◌, arith}
use Rattle.checks.proofs.Refusing.{number_positive}
use Rattle.report.proofs.Writing.{adds_as}
use Rattle.contig.proofs.Printed.{too_many, refusal_fits, refused, accepted, report_fits}
use Rattle.contig.proofs.write_answer.Goals as goal

-- `write_answer` meets its contract: the three cases of what is printed.
pub returns-then-letters-gt-MOST_LETTERS : goal.returns-then-letters-gt-MOST_LETTERS
returns-then-letters-gt-MOST_LETTERS c = adds_as (too_many _ (omega arith)) c.write_size_refusal.ensures

pub write_refusal-requires : goal.write_refusal-requires
write_refusal-requires c = refusal_fits _ _ (omega arith) c.requires.room

pub returns-in-Err : goal.returns-in-Err
returns-in-Err c =
    adds_as
    (refused _ (omega arith) (omega (arith, c.number.ensures, number_positive c.in-Err.refusal)) (c.number.ensures ∙ c.in-Err.ensures.refusal))
    c.write_refusal.ensures

pub write_report-requires : goal.write_report-requires
write_report-requires c = let A = c.in-Ok.ensures in report_fits _ (omega arith) A.refusal A.list A.shape _ c.requires.room

pub returns-in-Ok : goal.returns-in-Ok
returns-in-Ok c = let A = c.in-Ok.ensures in adds_as (accepted _ (omega arith) A.refusal A.list) c.write_report.ensures
