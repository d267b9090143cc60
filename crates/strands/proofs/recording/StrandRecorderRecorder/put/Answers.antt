use Rattle.std.proofs.Common.{map, Ok}
use Rattle.std.proofs.KnownBytes.{Appends-nil}
use Rattle.forms.proofs.Reports.{recorded_by}
use Rattle.strands.proofs.Written.{accepted_report, refused_report}
use Rattle.strands.proofs.recording.StrandRecorderRecorder.put.Goals as goal

pub returns-in-Ok-Ok-clause-recorded : goal.returns-in-Ok-Ok-clause-recorded
returns-in-Ok-Ok-clause-recorded g c =
    recorded_by _ _ (map (λ w. g.W.Write.contents w) c.args.outs.now) (map (λ w. g.W.Write.contents w) c.put_list.new.outs) (g.N.Write.contents c.args.notes.now) (g.N.Write.contents c.args.notes.now) c.put_list.result
    (accepted_report c.args.self.now.masker.options c.args.self.now.reverse c.args.entry.now _ c.as_slice-letters.ensures.value c.mask.new.list.items c.in-Ok-Ok.count
    (rw c.in-Ok-Ok.field-0-is at c.in-Ok-Ok.ensures.masks))
    (rw c.as_slice.ensures.value at c.put_list.ensures (g.N.Write.contents c.args.notes.now))

pub returns-in-Ok-Err-clause-recorded : goal.returns-in-Ok-Err-clause-recorded
returns-in-Ok-Err-clause-recorded g c =
    recorded_by _ _ (map (λ w. g.W.Write.contents w) c.args.outs.now) (map (λ w. g.W.Write.contents w) c.args.outs.now) (g.N.Write.contents c.args.notes.now) (g.N.Write.contents c.args.notes.now) (Ok c.new.result)
    (refused_report c.args.self.now.masker.options c.args.self.now.reverse c.args.entry.now _ c.as_slice-letters.ensures.value c.in-Ok-Err.field-0-0
    (rw c.in-Ok-Err.field-0-is at c.in-Ok-Err.ensures.masks))
    (λ i. Appends-nil _, Appends-nil _, c.new.ensures)
