use Rattle.std.proofs.Common.{◌∙◌}
use Rattle.forms.proofs.Numbered.{note_is}
use Rattle.forms.proofs.notes.add_note.Goals as goal

pub returns : goal.returns
returns c =
    note_is _ _ _ _ _ _ _ _ _ c.args.name.now c.args.letters.now c.args.refusal _ _ c.number.ensures (c.as_bytes.ensures.value ∙ c.text.ensures)
    c.in_ok-extend_from_slice.ensures.items c.in_ok-add_shown.ensures c.in_ok-extend_from_slice-2.ensures.items
    c.in_ok-add_decimal.ensures c.in_ok-extend_from_slice-3.ensures.items c.in_ok-extend_from_slice-4.ensures.items c.in_ok-add_detail.ensures c.in_ok-push.ensures.items
