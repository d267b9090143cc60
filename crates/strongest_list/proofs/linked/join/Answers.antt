-- The place is written; one of a k-mer is counted by those before it.
use Rattle.std.proofs.Common.{ℕ, suc, ◌+◌, ◌-◌, ◌/◌, ◌%◌, List, [], get_or, set, refl, ap, ap₂, sym, ◌∙◌, subst, arith}
use Rattle.letters.specs.Place.{Place}
use Rattle.letters.specs.Terms.Entry.{decode}
use Rattle.strongest.proofs.Largest.{largest_at}
use Rattle.strongest_list.specs.declared.linked.LinkedPlace.{LinkedPlace}
use Rattle.strongest_list.specs.declared.blocks.Block.{Block}
use Rattle.strongest_list.specs.Terms.Blocks.{no_block, order_at, added}
use Rattle.strongest_list.specs.Terms.Linked.{order, Linked, Written, Newest}
use Rattle.strongest_list.proofs.Gains.{value_small, value_plain, block_small}
use Rattle.strongest_list.proofs.Linking.{even_of, odd_of, in_same}
use Rattle.strongest_list.proofs.Counting.{joins_set, written_set, newest_set, newest_odd, linked_odd}
use Rattle.strongest_list.proofs.linked.join.Goals as goal

pub added-ambiguous-requires-clause-gain : goal.added-ambiguous-requires-clause-gain
added-ambiguous-requires-clause-gain c =
    let a = c.args in
    let s = a.request.now.scoring in
    let L = c.requires.linked in
    omega (
      arith,
      block_small s.ln.now s.threshold a.low a.n (a.n / 64) (order_at a.places.now) a.blocks.now L.blocked
          (λ i h. value_small s.threshold s.ln.now s.f.now a.request.now.window_size (order_at a.places.now i) c.requires.narrow (L.few i h)) (omega (arith, c.requires.blocks)),
    )

pub added-plain-requires-clause-gain : goal.added-plain-requires-clause-gain
added-plain-requires-clause-gain c =
    let a = c.args in
    let s = a.request.now.scoring in
    let L = c.requires.linked in
    omega (
      arith,
      block_small s.ln.now s.threshold a.low a.n (a.n / 64) (order_at a.places.now) a.blocks.now L.blocked
          (λ i h. value_small s.threshold s.ln.now s.f.now a.request.now.window_size (order_at a.places.now i) c.requires.narrow (L.few i h)) (omega (arith, c.requires.blocks)),
    )

pub added-plain-requires-clause-value : goal.added-plain-requires-clause-value
added-plain-requires-clause-value c =
    omega (arith, largest_at c.args.request.now.scoring.ln.now c.args.request.now.window_size 1 (omega arith) (omega (arith, c.requires.window.0)), c.requires.narrow.ln_small)

pub last_of-older-requires-clause-even : goal.last_of-older-requires-clause-even
last_of-older-requires-clause-even c = even_of c.args.entry c.in-Some.kmer c.in-Some.ensures.place

pub raise-requires-clause-even : goal.raise-requires-clause-even
raise-requires-clause-even c =
    let a = c.args in
    let v : LinkedPlace = record { entry = a.entry; older = c.last_of-older.result; order = 1 } in
    ap (λ (k : ℕ). k % 2) (joins_set a.places.now a.n v c.requires.inside.0).new ∙ even_of a.entry c.in-Some.kmer c.in-Some.ensures.place

pub raise-requires-clause-written : goal.raise-requires-clause-written
raise-requires-clause-written c =
    let a = c.args in
    let s = a.request.now.scoring in
    let w = a.request.now.window_size in
    let v : LinkedPlace = record { entry = a.entry; older = c.last_of-older.result; order = 1 } in
    subst (λ (x : Block). Written w s.ln.now s.threshold a.low a.n (set a.places.now a.n v) (set a.blocks.now (a.n / 64) x)) (sym c.added-plain.ensures)
    (written_set a.places.now a.n v c.requires.inside.0 w s.ln.now s.f.now s.threshold a.low (a.n / 64) a.newest.now a.blocks.now c.requires.linked c.requires.narrow c.requires.window.0
    (omega (arith, c.requires.blocks)) (omega arith) (omega arith) (get_or s.ln.now 1 0) (sym (value_plain s.ln.now 1 (omega arith))) (omega (arith, c.requires.window.0))
    (ap (order []) (sym c.in-Some.ensures.place)) (λ e. c.last_of-older.ensures))

pub returns-in-Some-clause-linked : goal.returns-in-Some-clause-linked
returns-in-Some-clause-linked c =
    let a = c.args in
    let s = a.request.now.scoring in
    let w = a.request.now.window_size in
    let v : LinkedPlace = record { entry = a.entry; older = c.last_of-older.result; order = 1 } in
    c.raise.ensures.linked (set a.newest.now c.in-Some.kmer (a.n + 1))
    (subst (λ (k : ℕ). Newest (set a.places.now a.n v) (suc a.n) (set a.newest.now k (a.n + 1))) (sym c.in-Some.ensures.kmer)
    (newest_set a.places.now a.n v c.requires.inside.0 w s.ln.now s.f.now s.threshold a.low (a.n / 64) a.newest.now a.blocks.now c.requires.linked c.requires.narrow c.requires.window.0
    (omega (arith, c.requires.blocks)) (omega arith) (omega arith) (a.n + 1) c.requires.long refl (even_of a.entry c.in-Some.kmer c.in-Some.ensures.place)))

pub returns-in-Some-clause-least : goal.returns-in-Some-clause-least
returns-in-Some-clause-least c =
    let a = c.args in
    let ps : List LinkedPlace = a.places.now in
    let v : LinkedPlace = record { entry = a.entry; older = c.last_of-older.result; order = 1 } in
    let J = joins_set ps a.n v c.requires.inside.0 in
    let e = ap₂ (λ (r : List Place) (d : ℕ). order r (decode d))
    (in_same ps (set ps a.n v) a.low (a.n - a.low) (λ i h k. J.others i (λ z. let w : ⊥ = omega (arith, c.requires.near.1) in w))) J.new in
    omega (arith, e, c.raise.ensures.least)

pub returns-in-None-clause-linked : goal.returns-in-None-clause-linked
returns-in-None-clause-linked c =
    let a = c.args in
    let s = a.request.now.scoring in
    let w = a.request.now.window_size in
    let v : LinkedPlace = record { entry = a.entry; older = 0; order = 0 } in
    let ps : List LinkedPlace = set a.places.now a.n v in
    let odd = odd_of a.entry c.in-None.ensures.place in
    subst (λ (x : Block). Linked w s.ln.now s.threshold a.low (suc a.n) ps a.newest.now (set a.blocks.now (a.n / 64) x)) (sym c.added-ambiguous.ensures)
    (linked_odd w s.ln.now s.threshold a.low a.n ps a.newest.now (set a.blocks.now (a.n / 64) (added (get_or a.blocks.now (a.n / 64) no_block) 0 s.threshold))
    (λ z. odd (ap (λ (k : ℕ). k % 2) (sym (joins_set a.places.now a.n v c.requires.inside.0).new) ∙ z))
    (written_set a.places.now a.n v c.requires.inside.0 w s.ln.now s.f.now s.threshold a.low (a.n / 64) a.newest.now a.blocks.now c.requires.linked c.requires.narrow c.requires.window.0
    (omega (arith, c.requires.blocks)) (omega arith) (omega arith) 0 refl (omega arith) (ap (order []) (sym c.in-None.ensures.place)) (λ z. absurd (odd z)))
    (newest_odd a.places.now a.n v c.requires.inside.0 w s.ln.now s.f.now s.threshold a.low (a.n / 64) a.newest.now a.blocks.now c.requires.linked c.requires.narrow c.requires.window.0
    (omega (arith, c.requires.blocks)) (omega arith) (omega arith) odd))
