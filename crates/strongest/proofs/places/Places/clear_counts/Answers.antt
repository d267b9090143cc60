use Rattle.strongest.proofs.Counting.{filled_known, cleared_known}
use Rattle.strongest.proofs.places.Places.clear_counts.Goals as goal

pub returns : goal.returns
returns c = let g = c.loop-i in cleared_known _ g.i g.counts g.invariant c.loop-i-test.false

pub returns-then-counts-self : goal.returns-then-counts-self
returns-then-counts-self c = filled_known c.args.self.now c.args.counts.now c.fill.new.self c.requires (c.fill.ensures.after (λ y e. e))
