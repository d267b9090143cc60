use Rattle.std.proofs.Common.{rules}
use Rattle.replay.proofs.Digits.{decimal_none, decimal_more}
use Rattle.replay.proofs.words.Words.number.Goals as goal

pub loop-i-init : goal.loop-i-init
loop-i-init c = record { unread = search rules; within = search rules; value = decimal_none c.args.self.now.rest.now }

pub loop-i-preserved : goal.loop-i-preserved
loop-i-preserved c = record {
  unread = search rules;
  within = search rules;
  value = decimal_more _ c.loop-i.i c.loop-i.number _ c.loop-i-test.true c.loop-i.invariant.value c.in-Some.ensures.value;
}
