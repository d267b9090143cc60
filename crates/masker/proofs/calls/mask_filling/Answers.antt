use Rattle.std.proofs.Common.{refl}
use Rattle.longdust.specs.Call.{Filled}
use Rattle.masker.proofs.Called.{refused, accepted}
use Rattle.masker.proofs.calls.mask_filling.Goals as goal

pub returns-in-Ok-clause-masks : goal.returns-in-Ok-clause-masks
returns-in-Ok-clause-masks c =
    let R = c.requires in
    accepted c.args.options c.args.letters.now _ _
    (rw (R.ln, R.f, R.codes, R.queue, R.window_counts, R.scan_counts, R.candidates, R.reverse_codes, R.forward_list, R.reverse_list, R.list, R.marks) refl)
    c.in-Ok.answer c.in-Ok.ensures.answered

pub returns-in-Err-clause-masks : goal.returns-in-Err-clause-masks
returns-in-Err-clause-masks c =
    let R = c.requires in
    refused Filled c.args.options c.args.letters.now _ _
    (rw (R.ln, R.f, R.codes, R.queue, R.window_counts, R.scan_counts, R.candidates, R.reverse_codes, R.forward_list, R.reverse_list, R.list, R.marks) refl)
    c.in-Err.refusal c.in-Err.ensures.answered
