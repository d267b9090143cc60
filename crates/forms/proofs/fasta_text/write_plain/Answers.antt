use Rattle.std.proofs.Common.{refl}
use Rattle.entries.proofs.Sending.{sent_then, sent_as, front_as, front_cut}
use Rattle.forms.proofs.Runs.{plain_is}
use Rattle.forms.proofs.fasta_text.write_plain.Goals as goal

pub returns-in-Err : goal.returns-in-Err
returns-in-Err g c =
    front_as _ _ _ _ (plain_is c.args.entry.now _ _ _ c.as_slice.ensures.value refl refl) (front_cut _ _ _ _ c.in-Err.ensures)

pub returns : goal.returns
returns g c =
    sent_as _ _ _ _ c.write_lines.result
    (plain_is c.args.entry.now _ _ _ c.as_slice.ensures.value c.as_slice-3.ensures.value c.as_slice-2.ensures.value)
    (sent_then _ _ _ _ _ c.write_lines.result c.in_default.ensures c.write_lines.ensures)
