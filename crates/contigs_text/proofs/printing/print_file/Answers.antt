use Rattle.contigs_text.proofs.Plain.{sent_file, counted_file}
use Rattle.contigs_text.proofs.printing.print_file.Goals as goal

pub returns-clause-written : goal.returns-clause-written
returns-clause-written g c = sent_file c.default.result c.default.ensures _ c.print_limited.result _ _ c.print_limited.ensures.written

pub returns-clause-count : goal.returns-clause-count
returns-clause-count g c = counted_file c.default.result c.default.ensures _ c.print_limited.result c.print_limited.ensures.count
