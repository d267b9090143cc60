use Rattle.entries.proofs.Sending.{sent_then}
use Rattle.forms.proofs.fasta_text.write_line.Goals as goal

pub returns-in-Ok : goal.returns-in-Ok
returns-in-Ok g c = sent_then _ _ _ _ _ c.write_whole-in-Ok.result c.in-Ok.ensures c.write_whole-in-Ok.ensures
