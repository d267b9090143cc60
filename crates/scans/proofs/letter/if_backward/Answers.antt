use Rattle.std.proofs.Common.{arith}
use Rattle.scans.proofs.Windows.{count_in}
use Rattle.scans.proofs.BackCheck.{entry_counted, checking_no, checking_yes}
use Rattle.scans.proofs.letter.if_backward.Goals as goal

pub window_value-v-requires : goal.window_value-v-requires
window_value-v-requires c = (entry_counted c.args.setup.now c.args.ring.now _ _ _ _ c.requires c.loop-i-test.true c.loop-i.auto.i c.index.ensures, count_in c.requires _)

pub returns-then-s : goal.returns-then-s
returns-then-s c = checking_no c.args.setup.now c.args.ring.now _ c.requires _ _ _ c.loop-i.invariant c.loop-i-test.true c.loop-i.auto.i _ c.index.ensures _ c.window_value-v.ensures c.if-s.true

pub returns : goal.returns
returns c = checking_yes c.args.setup.now c.args.ring.now _ _ _ c.loop-i.invariant (omega (arith, c.loop-i-test.false))
