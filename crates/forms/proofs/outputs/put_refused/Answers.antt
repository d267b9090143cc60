use Rattle.std.proofs.Common.{◌∙◌, sym}
use Rattle.std.proofs.KnownBytes.{Appends-nil}
use Rattle.entries.specs.Held.{lengths_of}
use Rattle.entries.proofs.Kept.{joined_cut}
use Rattle.forms.proofs.outputs.put_refused.Goals as goal

pub returns-in-Err : goal.returns-in-Err
returns-in-Err g c = (c.in-Err.ensures, Appends-nil _)

pub returns-in-Ok : goal.returns-in-Ok
returns-in-Ok g c =
    let e = c.args.entry.now in
    (c.in_default.ensures, rw (c.name.ensures, c.as_slice.ensures.value ∙ sym (joined_cut (lengths_of e.runs.items) e.letters.items)) at c.in-Ok.ensures, c.refused_sums.ensures)

pub returns-in-Err-write_note : goal.returns-in-Err-write_note
returns-in-Err-write_note g c =
    let e = c.args.entry.now in
    (c.in_default.ensures, rw (c.name.ensures, c.as_slice.ensures.value ∙ sym (joined_cut (lengths_of e.runs.items) e.letters.items)) at c.in-Err-write_note.ensures)
