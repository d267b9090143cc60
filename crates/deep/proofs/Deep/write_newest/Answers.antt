use Rattle.std.proofs.Common.{refl, sym, ◌∙◌, ◌-◌, arith}
use Rattle.scans.specs.Terms.Run.{entries_of}
use Rattle.deep.proofs.Windows.{long}
use Rattle.deep.proofs.Newest.{linked_none, linked_plain}
use Rattle.deep.proofs.Deep.write_newest.Goals as goal

pub returns-in_default-clause-linked : goal.returns-in_default-clause-linked
returns-in_default-clause-linked c =
    let r = c.requires in
    rw (c.set_cell.ensures.cells, c.set_cell.ensures.heads)
    (linked_none c.args.oldest (entries_of c.args.ring.now) (c.args.ring.now.len - 1) (long c.args.ring.now r.nonempty) (omega (arith, r.nonempty, r.window_small)) c.args.self.now.cells.now c.args.self.now.heads.now r.blocked.cells_long _ r.linked r.entry
    (sym r.entry ∙ c.in_default.ensures.place))

pub returns-clause-linked : goal.returns-clause-linked
returns-clause-linked c =
    let r = c.requires in
    rw (c.set_cell-2.ensures.cells, c.set_cell-2.ensures.heads)
    (linked_plain c.args.oldest (entries_of c.args.ring.now) (c.args.ring.now.len - 1) (long c.args.ring.now r.nonempty) (omega (arith, r.nonempty, r.window_small)) c.args.self.now.cells.now c.args.self.now.heads.now r.blocked.cells_long _ r.linked r.entry
    c.in-Some.kmer (sym r.entry ∙ c.in-Some.ensures.place) refl)
