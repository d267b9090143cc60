use Rattle.std.proofs.Common.{refl, ◌∙◌}
use Rattle.std.proofs.KnownBytes.{Appends-nil}
use Rattle.entries.proofs.Sending.{sent_then, sent_as, front_none, front_as, front_cut}
use Rattle.forms.proofs.Runs.{fasta_is}
use Rattle.forms.proofs.fasta_text.write_fasta.Goals as goal

pub returns-in-Err : goal.returns-in-Err
returns-in-Err g c = front_none _ _ (Appends-nil _)

pub returns-in-Err-write_line : goal.returns-in-Err-write_line
returns-in-Err-write_line g c =
    front_as _ _ _ _
    (fasta_is c.args.masking c.args.entry.now c.args.list.now _ _ c.copy_masked.new.copy.items c.args.entry.now.runs.items
    c.as_slice-2.ensures.value c.as_slice.ensures.value refl c.in_default.ensures)
    (front_cut _ _ _ _ c.in-Err-write_line.ensures)

pub returns : goal.returns
returns g c =
    sent_as _ _ _ _ c.write_lines.result
    (fasta_is c.args.masking c.args.entry.now c.args.list.now _ _ _ _ c.as_slice-2.ensures.value c.as_slice.ensures.value c.as_slice-3.ensures.value
    (c.as_slice-4.ensures.value ∙ c.in_default.ensures))
    (sent_then _ _ _ _ _ c.write_lines.result c.in_default-write_line.ensures c.write_lines.ensures)
