use Rattle.std.proofs.Common.{◌≡◌, sym, ap, ◌∙◌, subst, List, length, ℕ, ◌+◌, ◌-◌, ◌/◌, ◌%◌, arith}
use Rattle.letters.specs.Place.{Place}
use Rattle.scans.specs.Counts.{count}
use Rattle.scans.specs.Terms.Counted.{Counted}
use Rattle.scans.specs.Terms.Window.{window}
use Rattle.scans.proofs.Counting.{cleared_counted}
use Rattle.deep.specs.Terms.Cells.{Held}
use Rattle.deep.proofs.Fronts.{front_none, front, below, count_room, counted_on, times_are}
use Rattle.deep.proofs.Deep.begin.Goals as goal

pub loop-len-init : goal.loop-len-init
loop-len-init c =
    let r = c.requires in
    let none = front_none c.args.ring.now.queue.now c.args.ring.now.head in (
      subst (λ (q : List Place). Held c.args.scale.now c.args.oldest q c.clear.new.self) (sym none) (c.clear.ensures c.args.scale.now c.args.oldest r.narrow.none),
      subst (λ (q : List Place). Counted (length c.args.counts.now) c.args.counts.now q) (sym none) (subst (λ (l : List ℕ). Counted (length c.args.counts.now) l _) (sym r.counts_value) (cleared_counted (length c.args.counts.now))),
    )

pub raise_entry-times-requires : goal.raise_entry-times-requires
raise_entry-times-requires c =
    let r = c.requires in
    let l = c.loop-len in
    let t = c.loop-len-test.true in
    let Q = r.kmers_counted in
    let b = below c.args.ring.now.queue.now c.args.ring.now.head l.len c.args.ring.now.len (length c.args.counts.now) Q (omega (arith, l.auto.len)) (omega arith) in (
      omega (arith, ap (λ (x : ℕ). x / 2) c.newest.ensures, b, l.auto.counts),
      λ _. count_room c.args.ring.now.queue.now c.args.ring.now.head l.len c.args.ring.now.len (length c.args.counts.now) Q (omega (arith, l.auto.len)) (omega arith) l.counts l.invariant.1 (c.newest.result / 2),
    )

pub join-requires-clause-times : goal.join-requires-clause-times
join-requires-clause-times c even =
    let r = c.requires in
    let l = c.loop-len in
    let t = c.loop-len-test.true in
    let is = c.newest.ensures in
    c.unwrap_or.ensures
    ∙ times_are c.args.ring.now.queue.now c.args.ring.now.head l.len c.args.ring.now.len (length c.args.counts.now) r.kmers_counted (omega (arith, l.auto.len)) (omega arith) l.counts l.invariant.1
    c.newest.result is (ap (λ (x : ℕ). x % 2) is ∙ even) c.raise_entry-times.result c.raise_entry-times.ensures.raised
    ∙ ap (λ (x : ℕ). count (x / 2) (window c.args.ring.now.queue.now c.args.ring.now.head l.len)) is

pub join-requires-clause-before : goal.join-requires-clause-before
join-requires-clause-before c =
    let r = c.requires in
    let l = c.loop-len in
    let t = c.loop-len-test.true in
    subst (λ (q : List Place). Held c.args.scale.now c.args.oldest q l.self)
    (sym (front c.args.ring.now.queue.now c.args.ring.now.head l.len c.args.ring.now.len (length c.args.counts.now) r.kmers_counted (omega (arith, l.auto.len)) (omega arith))) l.invariant.0

pub loop-len-preserved : goal.loop-len-preserved
loop-len-preserved c =
    let r = c.requires in
    let l = c.loop-len in
    let t = c.loop-len-test.true in
    let same : l.len ≡ l.len + 1 - 1 = omega arith in (
      subst (λ (n : ℕ). Held c.args.scale.now c.args.oldest (window c.args.ring.now.queue.now c.args.ring.now.head n) c.join.new.self) same c.join.ensures.after,
      subst (λ (n : ℕ). Counted (length c.args.counts.now) c.raise_entry-times.new.counts (window c.args.ring.now.queue.now c.args.ring.now.head n)) same
          (subst (λ (k : List ℕ). Counted (length c.args.counts.now) k (window c.args.ring.now.queue.now c.args.ring.now.head l.len)) (sym c.raise_entry-times.ensures.counts_after)
          (counted_on c.args.ring.now.queue.now c.args.ring.now.head l.len c.args.ring.now.len (length c.args.counts.now) r.kmers_counted (omega (arith, l.auto.len)) (omega arith) l.counts l.invariant.1 c.newest.result c.newest.ensures)),
    )
