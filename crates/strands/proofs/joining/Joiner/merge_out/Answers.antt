use Rattle.strands.proofs.Merged.{merged_makes}
use Rattle.strands.proofs.joining.Joiner.merge_out.Goals as goal

pub returns-clause-makes : goal.returns-clause-makes
returns-clause-makes c =
    let E = c.merge_strands.ensures in
    merged_makes c.args.self.now.options c.args.self.now.forward.items c.args.self.now.reverse.items c.args.letters.now c.requires.accepted _ _ _ _
    c.requires.list_len c.requires.marks_len c.merge_strands.result
    (rw (c.as_slice-forward.ensures.value, c.as_slice-reverse.ensures.value) at E.refusal)
    (rw (c.as_slice-forward.ensures.value, c.as_slice-reverse.ensures.value) at E.count)
    (rw (c.as_slice-forward.ensures.value, c.as_slice-reverse.ensures.value) at E.list)
    (rw (c.as_slice-forward.ensures.value, c.as_slice-reverse.ensures.value) at E.marks)
