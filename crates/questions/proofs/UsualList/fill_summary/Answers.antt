use Rattle.std.proofs.Common.{arith}
use Rattle.questions.proofs.Blocks.{summing_start, summing_turn}
use Rattle.questions.proofs.Searching.{of_test}
use Rattle.questions.proofs.UsualList.fill_summary.Goals as goal

pub loop-i-init : goal.loop-i-init
loop-i-init c = summing_start c.args.self.now.list.now c.args.summary.now (of_test _ c.args.self.now.usual)

pub loop-i-preserved : goal.loop-i-preserved
loop-i-preserved c = summing_turn c.args.self.now.list.now c.args.summary.now c.loop-i.invariant (omega arith) c.walk-walked.ensures
