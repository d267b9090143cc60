use Rattle.std.proofs.Common.{rules}
use Rattle.strands.proofs.Reading.{read_turn, read_end}
use Rattle.strands.proofs.bytes.read_list.Goals as goal

pub loop-i-init : goal.loop-i-init
loop-i-init c = λ is f e. c.clear.ensures.items

pub loop-i-preserved : goal.loop-i-preserved
loop-i-preserved c = read_turn c.args.bytes.now _ _ _ c.loop-i.invariant (search rules) (search rules)

pub returns : goal.returns
returns c = read_end c.args.bytes.now _ (search rules)
