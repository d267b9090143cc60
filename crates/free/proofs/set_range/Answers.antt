use Rattle.std.proofs.Common.{◌∙◌, ap, arith, rules, Bool, cond}
use Rattle.free.specs.Terms.Letters.{at}
use Rattle.free.proofs.Setting.{between_all}
use Rattle.free.proofs.set_range.Goals as goal

pub returns : goal.returns
returns c = λ x h.
    c.loop-i.invariant.0.values x h
    ∙ ap (λ (b : Bool). cond b c.args.value (at c.args.map.now x)) (between_all c.args.from c.args.to c.loop-i.i x (search rules) (search rules) (search rules))
