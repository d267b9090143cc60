-- Each turn looks at the block before.
use Rattle.std.proofs.Common.{ℕ, ◌≡◌, ◌-◌, ap, ◌∙◌, subst, arith}
use Rattle.strongest_list.specs.Terms.Rows.{Capped, offers}
use Rattle.strongest_list.proofs.Rowing.{looks_none, looks_more}
use Rattle.strongest_list.proofs.rows.Row.look.Goals as goal

pub back-init : goal.back-init
back-init c =
    let a = c.args in
    looks_none a.request.now a.places.now a.count c.requires.narrow c.requires.few a.self.first a.low a.best a.blocks.now c.requires.order c.requires.blocked

pub look_at-looked-requires-clause-from : goal.look_at-looked-requires-clause-from
look_at-looked-requires-clause-from c = omega (arith, c.max-from.ensures, c.back-test.true)

pub look_at-looked-requires-clause-end : goal.look_at-looked-requires-clause-end
look_at-looked-requires-clause-end c = omega (arith, c.max-from.ensures, c.back-test.true, c.back.invariant.whole c.back-test.true)

pub look_at-looked-requires-clause-after : goal.look_at-looked-requires-clause-after
look_at-looked-requires-clause-after c = c.back.invariant.after_is c.back-test.true

pub look_at-looked-requires-clause-blocked : goal.look_at-looked-requires-clause-blocked
look_at-looked-requires-clause-blocked c = c.back.invariant.blocked

pub back-preserved : goal.back-preserved
back-preserved c =
    let a = c.args in
    let e = c.look_at-looked.ensures in
    looks_more a.request.now a.places.now a.count c.requires.narrow c.requires.few a.self.first a.low a.best c.back.blocks c.look_at-looked.new.blocks c.back.end c.max-from.result c.back.looked c.look_at-looked.result c.back.invariant c.back-test.true
    (omega (arith, c.max-from.ensures)) e.best e.ceiling e.capped e.after e.blocked

pub returns-clause-best : goal.returns-clause-best
returns-clause-best c =
    let a = c.args in
    let L = c.back.invariant in
    L.best_is ∙ ap (λ (n : ℕ). offers a.request.now a.places.now a.self.first a.count a.best 0 (a.count - n)) (let z : c.back.end ≡ a.low = omega (arith, L.low_in, c.back-test.false) in z)

pub returns-clause-capped : goal.returns-clause-capped
returns-clause-capped c =
    let a = c.args in
    let L = c.back.invariant in
    subst (λ (n : ℕ). Capped a.request.now a.places.now a.count c.back.looked.ceiling 0 (a.count - n)) (let z : c.back.end ≡ a.low = omega (arith, L.low_in, c.back-test.false) in z) L.capped

pub returns-clause-blocked : goal.returns-clause-blocked
returns-clause-blocked c = c.back.invariant.blocked
