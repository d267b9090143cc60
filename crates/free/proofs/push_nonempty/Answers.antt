use Rattle.std.proofs.Common.{◌∙◌, sym, ap, List, append-nil, ◌++◌}
use Rattle.intervals.specs.declared.Interval.{Interval}
use Rattle.intervals.proofs.Joining.{nonempty_some, nonempty_none}
use Rattle.free.proofs.push_nonempty.Goals as goal

pub returns-in_ok-push : goal.returns-in_ok-push
returns-in_ok-push c =
    c.in_ok-push.ensures.items ∙ ap (λ (is : List Interval). c.args.list.now.items ++ is) (sym (nonempty_some c.args.start c.args.end c.if-start-end.true))

pub returns-else-start-end : goal.returns-else-start-end
returns-else-start-end c =
    sym (ap (λ (is : List Interval). c.args.list.now.items ++ is) (nonempty_none c.args.start c.args.end c.if-start-end.false) ∙ append-nil c.args.list.now.items)
