use Rattle.std.proofs.Common.{map, sym, ap, ◌∙◌}
use Rattle.std.proofs.KnownBytes.{Appends-nil}
use Rattle.entries.specs.Held.{lengths_of}
use Rattle.entries.proofs.Kept.{joined_cut}
use Rattle.forms.specs.Counts.{accepted_sums}
use Rattle.forms.proofs.Writers.{none_sent}
use Rattle.forms.proofs.outputs.put_accepted.Goals as goal

pub returns-in-Err : goal.returns-in-Err
returns-in-Err g c = λ n. ((0, none_sent (map (λ w. g.W.Write.contents w) c.args.outs.now) _), Appends-nil n)

pub returns-in-Ok-write_parts : goal.returns-in-Ok-write_parts
returns-in-Ok-write_parts g c = λ n.
    let e = c.args.part.now.entry.now in (
      c.in-Ok-write_parts.ensures,
      Appends-nil n,
      c.in-Ok.ensures ∙ ap (λ l. accepted_sums l c.args.part.now.list.now) (c.as_slice.ensures.value ∙ sym (joined_cut (lengths_of e.runs.items) e.letters.items)),
    )

pub returns-in-Err-write_parts : goal.returns-in-Err-write_parts
returns-in-Err-write_parts g c = λ n. (c.in-Err-write_parts.ensures, Appends-nil n)
