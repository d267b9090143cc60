-- Each turn raises one order, and the sum of its block.
use Rattle.std.proofs.Common.{ℕ, ◌+◌, ◌-◌, ◌/◌, get_or, set, refl, ap₂, sym, ◌∙◌, subst, arith}
use Rattle.strongest_list.specs.declared.linked.LinkedPlace.{LinkedPlace}
use Rattle.strongest_list.specs.declared.blocks.Block.{Block}
use Rattle.strongest_list.specs.Terms.Blocks.{no_place, no_block, order_at, value, raised}
use Rattle.strongest_list.proofs.Gains.{value_small}
use Rattle.strongest_list.proofs.Counting.{Walk, walk_start, walk_next, walk_block, walk_gain, walk_linked, walk_least, q_small}
use Rattle.strongest_list.proofs.linked.raise.Goals as goal

pub older-init : goal.older-init
older-init c =
    let a = c.args in
    let s = a.request.now.scoring in
    let w = a.request.now.window_size in
    walk_start w s.ln.now s.f.now s.threshold a.low a.n a.places.now a.blocks.now c.requires.written c.requires.narrow c.requires.even c.requires.near _ refl c.requires.window.0

pub overflow_add-order : goal.overflow_add-order
overflow_add-order c =
    let a = c.args in
    let s = a.request.now.scoring in
    let w = a.request.now.window_size in
    let K = c.older.invariant in
    omega (
      arith,
      c.requires.window.1,
      q_small w s.ln.now s.f.now s.threshold a.low a.n a.places.now a.blocks.now c.requires.written c.requires.narrow c.requires.even c.requires.near c.older.places c.older.blocks c.older.at c.older.order K c.older-test.true
          (omega (arith, c.requires.inside, c.older.auto.places)) ((c.older.at - 1) / 64) (omega (arith, c.requires.blocks, c.older.auto.blocks, K.inside)) (omega arith) (omega arith),
    )

pub value-was-requires : goal.value-was-requires
value-was-requires c =
    let K = c.older.invariant in
    omega (arith, K.few (c.older.at - 1) (omega (arith, K.inside, c.older-test.true)), c.requires.narrow.ln_long)

pub value-is-requires : goal.value-is-requires
value-is-requires c =
    let a = c.args in
    let s = a.request.now.scoring in
    let w = a.request.now.window_size in
    let K = c.older.invariant in
    omega (
      arith,
      c.requires.narrow.ln_long,
      q_small w s.ln.now s.f.now s.threshold a.low a.n a.places.now a.blocks.now c.requires.written c.requires.narrow c.requires.even c.requires.near c.older.places c.older.blocks c.older.at c.older.order K c.older-test.true
          (omega (arith, c.requires.inside, c.older.auto.places)) ((c.older.at - 1) / 64) (omega (arith, c.requires.blocks, c.older.auto.blocks, K.inside)) (omega arith) (omega arith),
    )

pub raised-requires-clause-gain : goal.raised-requires-clause-gain
raised-requires-clause-gain c =
    let a = c.args in
    let s = a.request.now.scoring in
    let w = a.request.now.window_size in
    let K = c.older.invariant in
    omega (
      arith,
      walk_gain w s.ln.now s.f.now s.threshold a.low a.n a.places.now a.blocks.now c.requires.written c.requires.narrow c.requires.even c.requires.near c.older.places c.older.blocks c.older.at c.older.order K c.older-test.true
          (omega (arith, c.requires.inside, c.older.auto.places)) ((c.older.at - 1) / 64) (omega (arith, c.requires.blocks, c.older.auto.blocks, K.inside)) (omega arith) (omega arith),
    )

pub raised-requires-clause-was : goal.raised-requires-clause-was
raised-requires-clause-was c =
    let a = c.args in
    let s = a.request.now.scoring in
    let w = a.request.now.window_size in
    let K = c.older.invariant in
    omega (
      arith,
      c.value-was.ensures,
      walk_block w s.ln.now s.f.now s.threshold a.low a.n a.places.now a.blocks.now c.requires.written c.requires.narrow c.requires.even c.requires.near c.older.places c.older.blocks c.older.at c.older.order K c.older-test.true
          (omega (arith, c.requires.inside, c.older.auto.places)) ((c.older.at - 1) / 64) (omega (arith, c.requires.blocks, c.older.auto.blocks, K.inside)) (omega arith) (omega arith),
    )

pub raised-requires-clause-is : goal.raised-requires-clause-is
raised-requires-clause-is c =
    let a = c.args in
    let s = a.request.now.scoring in
    let w = a.request.now.window_size in
    let K = c.older.invariant in
    omega (
      arith,
      c.value-is.ensures,
      value_small s.threshold s.ln.now s.f.now w (order_at c.older.places (c.older.at - 1) + 1) c.requires.narrow
          (q_small w s.ln.now s.f.now s.threshold a.low a.n a.places.now a.blocks.now c.requires.written c.requires.narrow c.requires.even c.requires.near c.older.places c.older.blocks c.older.at c.older.order K c.older-test.true
          (omega (arith, c.requires.inside, c.older.auto.places)) ((c.older.at - 1) / 64) (omega (arith, c.requires.blocks, c.older.auto.blocks, K.inside)) (omega arith) (omega arith)),
    )

pub older-preserved : goal.older-preserved
older-preserved c =
    let a = c.args in
    let s = a.request.now.scoring in
    let w = a.request.now.window_size in
    let K = c.older.invariant in
    let at = c.older.at in
    let old : LinkedPlace = get_or c.older.places (at - 1) no_place in
    let r : ℕ = old.order + 1 in
    let v : LinkedPlace = record { entry = old.entry; older = old.older; order = r } in
    let b : Block = get_or c.older.blocks ((at - 1) / 64) no_block in
    subst (λ (x : Block). Walk w s.ln.now s.threshold a.low a.n a.places.now (set c.older.places (at - 1) v) (set c.older.blocks ((at - 1) / 64) x) old.older r)
    (sym (c.raised.ensures ∙ ap₂ (λ (x y : ℕ). raised b x y) c.value-was.ensures c.value-is.ensures))
    (walk_next w s.ln.now s.f.now s.threshold a.low a.n a.places.now a.blocks.now c.requires.written c.requires.narrow c.requires.even c.requires.near c.older.places c.older.blocks at c.older.order K c.older-test.true
    (omega (arith, c.requires.inside, c.older.auto.places)) ((at - 1) / 64) (omega (arith, c.requires.blocks, c.older.auto.blocks, K.inside)) (omega arith) (omega arith)
    v old old.older r (value s.ln.now old.order) (value s.ln.now r) refl refl refl refl refl refl)

pub returns-clause-linked : goal.returns-clause-linked
returns-clause-linked c newest M =
    let a = c.args in
    let s = a.request.now.scoring in
    walk_linked a.request.now.window_size s.ln.now s.f.now s.threshold a.low a.n a.places.now a.blocks.now c.requires.written c.requires.narrow c.requires.even c.requires.near
    c.older.places c.older.blocks c.older.at c.older.order c.older.invariant c.older-test.false newest M

pub returns-clause-least : goal.returns-clause-least
returns-clause-least c =
    let a = c.args in
    let s = a.request.now.scoring in
    walk_least a.request.now.window_size s.ln.now s.f.now s.threshold a.low a.n a.places.now a.blocks.now c.requires.written c.requires.narrow c.requires.even c.requires.near
    c.older.places c.older.blocks c.older.at c.older.order c.older.invariant c.older-test.false
