use Rattle.std.proofs.Common.{refl}
use Rattle.longdust.specs.Call.{Kept}
use Rattle.masker.proofs.Called.{refused, accepted_kept}
use Rattle.masker.proofs.calls.mask_by.Goals as goal

pub returns-in-Ok-clause-masks : goal.returns-in-Ok-clause-masks
returns-in-Ok-clause-masks c =
    let R = c.requires.sized in
    accepted_kept c.args.options c.args.letters.now _ _
    (rw (R.ln, R.f, R.codes, R.queue, R.window_counts, R.scan_counts, R.candidates, R.reverse_codes, R.forward_list, R.reverse_list, R.list, R.marks) refl)
    c.in-Ok.answer c.in-Ok.ensures.answered (c.requires.tables c.args.letters.now c.requires.serves).0 (c.requires.tables c.args.letters.now c.requires.serves).1

pub returns-in-Err-clause-masks : goal.returns-in-Err-clause-masks
returns-in-Err-clause-masks c =
    let R = c.requires.sized in
    refused Kept c.args.options c.args.letters.now _ _
    (rw (R.ln, R.f, R.codes, R.queue, R.window_counts, R.scan_counts, R.candidates, R.reverse_codes, R.forward_list, R.reverse_list, R.list, R.marks) refl)
    c.in-Err.refusal c.in-Err.ensures.answered
