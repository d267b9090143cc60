use Rattle.std.proofs.Common.{true}
use Rattle.forms.specs.Form.{report_of}
use Rattle.entries.proofs.Whole.{going_start, ends_early}
use Rattle.forms.proofs.form.put_file.Goals as goal

pub returns-in-Err : goal.returns-in-Err
returns-in-Err g c =
    ends_early (report_of c.args.forms.now c.args.settings) true _ _ _ _ _ _ _ _
    (going_start (report_of c.args.forms.now c.args.settings) true _ _ _ (g.R.Read.remaining c.args.reader.now))

pub returns : goal.returns
returns g c =
    let made = c.in-Ok.ensures in
    rw (made.forms, made.options, made.skip_short, made.min_length) at c.put_records.ensures.outcome
