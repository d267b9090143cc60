use Rattle.std.proofs.Common.{arith}
use Rattle.short_sequences.proofs.Letters.{counting_ordered, counting_fits, counting_turn, counting_end}
use Rattle.short_sequences.proofs.count_letters.Goals as goal

pub overflow_sub-letters : goal.overflow_sub-letters
overflow_sub-letters c = counting_ordered c.requires c.loop-interval.invariant (omega arith)

pub overflow_add-letters : goal.overflow_add-letters
overflow_add-letters c =
    let within = counting_fits c.requires c.loop-interval.invariant (omega arith) in
    record { fits = omega (arith, c.well_formed) }

pub loop-interval-preserved : goal.loop-interval-preserved
loop-interval-preserved c = counting_turn c.requires c.loop-interval.invariant (omega arith)

pub returns : goal.returns
returns c = counting_end c.loop-interval.invariant (omega arith)
