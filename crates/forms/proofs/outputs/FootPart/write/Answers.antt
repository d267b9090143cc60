use Rattle.std.proofs.Common.{ap, sym}
use Rattle.entries.proofs.Sending.{sent_as}
use Rattle.forms.specs.declared.form.Form.{Form}
use Rattle.forms.specs.Form.{foot_of}
use Rattle.forms.proofs.outputs.FootPart.write.Goals as goal

pub returns-in-Summary : goal.returns-in-Summary
returns-in-Summary g c =
    sent_as _ _ _ _ c.write_foot.result (ap (λ (f : Form). foot_of c.args.self.now.sums f) (sym c.in-Summary.is)) c.write_foot.ensures
