use Rattle.std.proofs.Common.{ap, sym}
use Rattle.entries.specs.Held.{entry_of}
use Rattle.entries.proofs.Sending.{sent_as}
use Rattle.forms.specs.declared.form.Form.{Form}
use Rattle.forms.specs.Form.{passed}
use Rattle.forms.proofs.outputs.RefusedPart.write.Goals as goal

pub returns-in-Soft : goal.returns-in-Soft
returns-in-Soft g c =
    sent_as _ _ _ _ c.write_plain.result (ap (λ (f : Form). passed f (entry_of c.args.self.now.entry.now)) (sym c.in-Soft.is)) c.write_plain.ensures

pub returns-in-HardN : goal.returns-in-HardN
returns-in-HardN g c =
    sent_as _ _ _ _ c.write_plain-in-HardN.result (ap (λ (f : Form). passed f (entry_of c.args.self.now.entry.now)) (sym c.in-HardN.is)) c.write_plain-in-HardN.ensures

pub returns-in-HardX : goal.returns-in-HardX
returns-in-HardX g c =
    sent_as _ _ _ _ c.write_plain-in-HardX.result (ap (λ (f : Form). passed f (entry_of c.args.self.now.entry.now)) (sym c.in-HardX.is)) c.write_plain-in-HardX.ensures
