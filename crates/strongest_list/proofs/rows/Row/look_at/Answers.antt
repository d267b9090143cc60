-- A block that cannot reach what was found is passed, another is read.
use Rattle.std.proofs.Common.{ℕ, ◌+◌, ◌-◌, ◌/◌, refl, sym, ◌∙◌, subst, arith, add-mul}
use Rattle.strongest.proofs.Reading.{product_small}
use Rattle.strongest.proofs.Largest.{largest_at}
use Rattle.strongest_list.specs.Terms.Blocks.{order_at, gains, Below_top}
use Rattle.strongest_list.proofs.Gains.{block_small, blocked_top}
use Rattle.strongest_list.proofs.Offering.{left_out}
use Rattle.strongest_list.proofs.Rowing.{small, after_small, bounded, passed, after_block}
use Rattle.strongest_list.proofs.rows.Row.look_at.Goals as goal

pub overflow_add-loss-3 : goal.overflow_add-loss-3
overflow_add-loss-3 c =
    let a = c.args in
    let s = a.request.now.scoring in
    let n : ℕ = a.part.count - a.part.end in
    omega (
      arith,
      add-mul n 64 s.threshold,
      product_small n s.threshold (omega (arith, c.requires.short, c.requires.order, c.requires.from, c.requires.window)) c.requires.narrow.t_small,
      c.requires.narrow.t_small,
      largest_at s.f.now a.request.now.window_size (n + 1) (omega arith) (omega (arith, c.requires.short, c.requires.order, c.requires.from)),
      c.requires.narrow.f_small,
    )

pub overflow_add-looked : goal.overflow_add-looked
overflow_add-looked c =
    let a = c.args in
    omega (
      arith,
      after_small a.request.now a.places.now a.part.count c.requires.narrow c.requires.few a.self.first a.part.from a.part.end a.looked (omega (arith, c.requires.order)) (omega (arith, c.requires.from, c.requires.end)) (omega (arith, c.requires.end)) c.requires.after
          (omega (arith, c.requires.short, c.requires.from)) c.requires.window,
      c.requires.blocked.top_small (a.part.from / 64) (omega (arith, c.requires.blocks, c.requires.order, c.requires.end)),
    )

pub overflow_add-after : goal.overflow_add-after
overflow_add-after c =
    let a = c.args in
    let s = a.request.now.scoring in
    omega (
      arith,
      after_small a.request.now a.places.now a.part.count c.requires.narrow c.requires.few a.self.first a.part.from a.part.end a.looked (omega (arith, c.requires.order)) (omega (arith, c.requires.from, c.requires.end)) (omega (arith, c.requires.end)) c.requires.after
          (omega (arith, c.requires.short, c.requires.from)) c.requires.window,
      block_small s.ln.now s.threshold a.part.low a.part.count (a.part.from / 64) (order_at a.places.now) a.blocks.now c.requires.blocked
          (small a.request.now a.places.now a.part.count c.requires.narrow c.requires.few) (omega (arith, c.requires.blocks, c.requires.order, c.requires.end)),
    )

pub returns-then-out-clause-best : goal.returns-then-out-clause-best
returns-then-out-clause-best c =
    let a = c.args in
    let o = left_out _ _ (sym c.leaves_out-out.ensures ∙ c.if-out.true) in
    sym
    (passed a.request.now a.places.now a.part.count c.requires.narrow c.requires.few a.self.first a.part.from a.part.end a.looked (omega (arith, c.requires.order)) (omega (arith, c.requires.from, c.requires.end)) (omega (arith, c.requires.end)) c.requires.after
    a.part.low a.blocks.now c.requires.blocked (a.part.from / 64) c.saturating_sub-bound.result (omega (arith, c.requires.blocks, c.requires.order, c.requires.end)) c.requires.from c.requires.end c.requires.order
    (omega (arith, c.requires.short, c.requires.from)) (c.requires.steady o.0) c.saturating_sub-bound.ensures o.1)

pub returns-then-out-clause-capped : goal.returns-then-out-clause-capped
returns-then-out-clause-capped c =
    let a = c.args in
    let o = left_out _ _ (sym c.leaves_out-out.ensures ∙ c.if-out.true) in
    record {
      at = λ i h k.
          omega (
            arith,
            c.max-ceiling.ensures,
            bounded a.request.now a.places.now a.part.count c.requires.narrow c.requires.few a.self.first a.part.from a.part.end a.looked (omega (arith, c.requires.order)) (omega (arith, c.requires.from, c.requires.end)) (omega (arith, c.requires.end)) c.requires.after
                a.part.low a.blocks.now c.requires.blocked (a.part.from / 64) c.saturating_sub-bound.result (omega (arith, c.requires.blocks, c.requires.order, c.requires.end)) c.requires.from c.requires.end c.requires.order
                (omega (arith, c.requires.short, c.requires.from)) (c.requires.steady o.0) c.saturating_sub-bound.ensures i h k,
          );
    }

pub returns-then-out-clause-after : goal.returns-then-out-clause-after
returns-then-out-clause-after c h =
    let a = c.args in
    after_block a.request.now a.places.now a.part.count c.requires.narrow c.requires.few a.self.first a.part.from a.part.end a.looked (omega (arith, c.requires.order)) (omega (arith, c.requires.from, c.requires.end)) (omega (arith, c.requires.end)) c.requires.after
    a.part.low a.blocks.now c.requires.blocked (a.part.from / 64) _ (omega (arith, c.requires.blocks, c.requires.order, c.requires.end)) c.requires.from c.requires.end c.requires.order refl h

pub returns-clause-after : goal.returns-clause-after
returns-clause-after c h =
    let a = c.args in
    after_block a.request.now a.places.now a.part.count c.requires.narrow c.requires.few a.self.first a.part.from a.part.end a.looked (omega (arith, c.requires.order)) (omega (arith, c.requires.from, c.requires.end)) (omega (arith, c.requires.end)) c.requires.after
    a.part.low a.blocks.now c.requires.blocked (a.part.from / 64) _ (omega (arith, c.requires.blocks, c.requires.order, c.requires.end)) c.requires.from c.requires.end c.requires.order refl h

pub returns-clause-blocked : goal.returns-clause-blocked
returns-clause-blocked c =
    let a = c.args in
    let s = a.request.now.scoring in
    let f = order_at a.places.now in
    blocked_top s.ln.now s.threshold a.part.low a.part.count (a.part.from / 64) a.part.from c.read-seen.result.top f a.blocks.now c.requires.blocked (omega (arith, c.requires.blocks, c.requires.order, c.requires.end)) c.requires.from c.read-seen.ensures.top_small
    (λ p h k.
    subst (λ (e : ℕ). Below_top s.threshold (gains s.ln.now f p (e - p)) (e - p) c.read-seen.result.top) c.requires.end (c.read-seen.ensures.top p h (omega (arith, c.requires.end))))
