use Rattle.std.proofs.Common.{◌-◌}
use Rattle.scans.specs.Terms.Run.{entries_of}
use Rattle.deep.proofs.Leading.{finds_at}
use Rattle.deep.proofs.Deep.finds.Goals as goal

pub returns-then-ends_best-clause-told : goal.returns-then-ends_best-clause-told
returns-then-ends_best-clause-told c t =
    finds_at c.args.scale.now c.args.lead.limit (entries_of c.args.ring.now) (c.args.ring.now.len - c.args.lead.size) (c.leads.ensures c.if-not-leads.false) (c.ends_best.ensures c.if-ends_best.true)
