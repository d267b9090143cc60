use Rattle.std.proofs.Common.{true}
use Rattle.forms.specs.Form.{report_of}
use Rattle.entries.proofs.Whole.{going_start, ends_early}
use Rattle.strands.proofs.Outcomes.{whatever, joined_outcome}
use Rattle.strands.proofs.joining.put_joined.Goals as goal

pub returns-in-Err : goal.returns-in-Err
returns-in-Err g c =
    whatever _ _ _ (ends_early (report_of c.args.joining.now.forms.now c.args.joining.now.settings) true _ _ _ _ _ _ _ _
    (going_start (report_of c.args.joining.now.forms.now c.args.joining.now.settings) true _ _ _ (g.R.Read.remaining c.args.reader.now)))

pub returns : goal.returns
returns g c =
    joined_outcome c.args.joining.now.forms.now c.args.joining.now.settings c.args.joining.now.forward.now c.args.joining.now.reverse.now
    c.in-Ok.masker c.in-Ok.ensures _ _ _ _ _ _ c.put_records.result (g.R.Read.remaining c.args.reader.now) c.put_records.ensures.outcome
