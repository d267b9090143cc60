use Rattle.std.proofs.Common.{◌∙◌}
use Rattle.contigs_text.proofs.Plain.{sent_text, counted}
use Rattle.contigs_text.proofs.printing.print_limited.Goals as goal

pub returns-clause-written : goal.returns-clause-written
returns-clause-written g c =
    sent_text c.args.limits c.args.options _ c.as_slice.result.now c.as_slice-2.result.now
    (rw c.as_slice.ensures.value c.in_default.ensures) (c.as_slice-2.ensures.value ∙ c.in_default-make_text.ensures) _ _ c.print_text.result
    c.print_text.ensures.written

pub returns-clause-count : goal.returns-clause-count
returns-clause-count g c =
    counted c.args.limits c.args.options _ c.as_slice.result.now c.as_slice-2.result.now
    (rw c.as_slice.ensures.value c.in_default.ensures) (c.as_slice-2.ensures.value ∙ c.in_default-make_text.ensures) c.print_text.result
    c.print_text.ensures.count
