use Rattle.scans.proofs.ForwardScan.{forwarding_end, forwarding_turn, forwarding_stop}
use Rattle.scans.proofs.forward.forward_part.Goals as goal

pub returns-then-sl-limit : goal.returns-then-sl-limit
returns-then-sl-limit c =
    let q = c.requires in
    forwarding_stop _ _ _ _ _ _ _ _ _ _ c.loop-i.invariant q.coded.0 c.loop-i-test.true _ _ c.count_entry-v.ensures q.done_value.1 c.judged-st.result c.judged-st.ensures.0 _ c.stopped.ensures.0 c.stopped.ensures.1 c.if-sl-limit.true

pub loop-i-preserved : goal.loop-i-preserved
loop-i-preserved c =
    let q = c.requires in
    forwarding_turn _ _ _ _ _ _ _ _ _ _ c.loop-i.invariant q.coded.0 c.loop-i-test.true _ _ c.count_entry-v.ensures q.done_value.1 _ c.judged-st.ensures.0 c.judged-st.ensures.1 c.if-sl-limit.false

pub returns : goal.returns
returns c = forwarding_end _ _ _ _ _ _ _ _ _ _ c.loop-i.invariant c.loop-i-test.false
