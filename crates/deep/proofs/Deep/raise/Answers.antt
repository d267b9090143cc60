use Rattle.std.proofs.Common.{refl, sym, ◌∙◌, subst, List, ℕ, suc, ◌+◌, ◌-◌, ◌/◌, ◌≤◌, inl, inr, arith}
use Rattle.letters.proofs.Entries.{decode_plain}
use Rattle.scans.specs.Terms.Run.{entries_of}
use Rattle.deep.proofs.Windows.{long, all_ordered}
use Rattle.deep.proofs.Walks.{Walks, walks_start, walks_on, walked, few_met, slot_in}
use Rattle.deep.proofs.Deep.raise.Goals as goal

pub loop-turn-init : goal.loop-turn-init
loop-turn-init c =
    let r = c.requires in (
      walks_start c.args.oldest (entries_of c.args.ring.now) (c.args.ring.now.len - 1) (c.args.entry / 2) (long c.args.ring.now r.nonempty) (omega (arith, r.nonempty, r.window_small)) (sym r.entry ∙ decode_plain c.args.entry r.plain)
          c.args.self.now.heads.now c.args.self.now.cells.now _ r.blocked.cells_long r.linked r.older r.newest refl,
      r.blocked,
    )

pub returns-then-met-times-clause-linked : goal.returns-then-met-times-clause-linked
returns-then-met-times-clause-linked c = c.loop-turn.invariant.0.linked

pub returns-then-met-times-clause-ordered : goal.returns-then-met-times-clause-ordered
returns-then-met-times-clause-ordered c =
    let r = c.requires in
    all_ordered c.args.ring.now r.nonempty c.args.oldest _
    (walked c.args.oldest (entries_of c.args.ring.now) (c.args.ring.now.len - 1) (c.args.entry / 2) (long c.args.ring.now r.nonempty) (omega (arith, r.nonempty, r.window_small)) (sym r.entry ∙ decode_plain c.args.entry r.plain)
    c.loop-turn.self.heads.now c.loop-turn.self.cells.now c.loop-turn.met.times c.loop-turn.met.next c.loop-turn.turn c.loop-turn.invariant.0 (inl (c.if-met-times.true ∙ r.times)))

pub returns-then-met-times-clause-blocked : goal.returns-then-met-times-clause-blocked
returns-then-met-times-clause-blocked c = c.loop-turn.invariant.1

pub meet-met-requires-clause-in_cells : goal.meet-met-requires-clause-in_cells
meet-met-requires-clause-in_cells c =
    let r = c.requires in
    slot_in c.args.oldest (entries_of c.args.ring.now) (c.args.ring.now.len - 1) (c.args.entry / 2) (long c.args.ring.now r.nonempty) (omega (arith, r.nonempty, r.window_small)) (sym r.entry ∙ decode_plain c.args.entry r.plain)
    c.loop-turn.self.heads.now c.loop-turn.self.cells.now c.loop-turn.met.times c.loop-turn.met.next c.loop-turn.turn c.loop-turn.invariant.0 (λ z. c.if-met-times.false (z ∙ sym r.times))

pub meet-met-requires-clause-few : goal.meet-met-requires-clause-few
meet-met-requires-clause-few c =
    let r = c.requires in
    few_met c.args.oldest (entries_of c.args.ring.now) (c.args.ring.now.len - 1) (c.args.entry / 2) (long c.args.ring.now r.nonempty) (omega (arith, r.nonempty, r.window_small)) (sym r.entry ∙ decode_plain c.args.entry r.plain)
    c.loop-turn.self.heads.now c.loop-turn.self.cells.now c.loop-turn.met.times c.loop-turn.met.next c.loop-turn.turn c.loop-turn.invariant.0 (λ z. c.if-met-times.false (z ∙ sym r.times))

pub meet-met-requires-clause-blocked : goal.meet-met-requires-clause-blocked
meet-met-requires-clause-blocked c = c.loop-turn.invariant.1

pub loop-turn-preserved : goal.loop-turn-preserved
loop-turn-preserved c =
    let r = c.requires in (
      subst (λ (heads : List ℕ). Walks c.args.oldest (entries_of c.args.ring.now) (c.args.ring.now.len - 1) (c.args.entry / 2) heads c.meet-met.new.self.cells.now c.meet-met.result.times c.meet-met.result.next (c.loop-turn.turn + 1))
          (sym c.meet-met.ensures.heads)
          (walks_on c.args.oldest (entries_of c.args.ring.now) (c.args.ring.now.len - 1) (c.args.entry / 2) (long c.args.ring.now r.nonempty) (omega (arith, r.nonempty, r.window_small)) (sym r.entry ∙ decode_plain c.args.entry r.plain)
          c.loop-turn.self.heads.now c.loop-turn.self.cells.now c.loop-turn.met.times c.loop-turn.met.next c.loop-turn.turn c.loop-turn.invariant.0 (λ z. c.if-met-times.false (z ∙ sym r.times))
          c.args.entry (decode_plain c.args.entry r.plain) c.meet-met.result c.meet-met.new.self.cells.now c.meet-met.ensures.met),
      c.meet-met.ensures.blocked,
    )

pub returns-clause-linked : goal.returns-clause-linked
returns-clause-linked c = c.loop-turn.invariant.0.linked

pub returns-clause-ordered : goal.returns-clause-ordered
returns-clause-ordered c =
    let r = c.requires in
    all_ordered c.args.ring.now r.nonempty c.args.oldest _
    (walked c.args.oldest (entries_of c.args.ring.now) (c.args.ring.now.len - 1) (c.args.entry / 2) (long c.args.ring.now r.nonempty) (omega (arith, r.nonempty, r.window_small)) (sym r.entry ∙ decode_plain c.args.entry r.plain)
    c.loop-turn.self.heads.now c.loop-turn.self.cells.now c.loop-turn.met.times c.loop-turn.met.next c.loop-turn.turn c.loop-turn.invariant.0
    (inr (let t = c.loop-turn-test.false in let z : suc (c.args.ring.now.len - 1) ≤ c.loop-turn.turn = omega (arith, r.nonempty, r.window_small) in z)))

pub returns-clause-blocked : goal.returns-clause-blocked
returns-clause-blocked c = c.loop-turn.invariant.1
