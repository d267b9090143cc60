-- An end none of whose stretches can reach what was found is left out.
use Rattle.std.proofs.Common.{sym, ◌∙◌}
use Rattle.strongest_list.proofs.Offering.{left_out}
use Rattle.strongest_list.proofs.Rowing.{none_reach}
use Rattle.strongest_list.proofs.rows.Row.judge.Goals as goal

pub returns-then-out-clause-best : goal.returns-then-out-clause-best
returns-then-out-clause-best c h =
    let a = c.args in
    let o = left_out _ _ (sym c.leaves_out-out.ensures ∙ c.if-out.true) in
    sym (none_reach a.request.now a.places.now a.count c.requires.narrow c.requires.few a.self.first a.low a.reached.ceiling a.reached.best (c.requires.capped o.0) o.1)
