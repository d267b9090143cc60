use Rattle.std.proofs.Common.{◌≡◌, sym, ap, ◌∙◌, subst, ℕ, suc, ◌+◌, ◌-◌, ◌/◌, arith, List, length, get_or, take, drop, length-drop}
use lib.Seq.{take-length}
use Rattle.letters.specs.Place.{Place}
use Rattle.scans.specs.Terms.Counted.{Counted}
use Rattle.scans.specs.Terms.Run.{entries_of}
use Rattle.scans.proofs.Rings.{entries_long}
use Rattle.deep.proofs.Entering.{entry_below, entry_room, entry_counted}
use Rattle.deep.proofs.short.count_from.Goals as goal

pub raise_entry-requires : goal.raise_entry-requires
raise_entry-requires c =
    let Q = c.requires.kmers_counted in
    let r = c.args.ring.now in
    let l = c.loop-i in
    let t = c.loop-i-test.true in
    let m = length c.args.counts.now in
    let is = ap (λ (k : ℕ). get_or r.queue.now k 0) c.index.ensures in (
      omega (arith, entry_below r.queue.now r.head r.len m Q c.args.from l.i l.auto.i (omega arith) (get_or r.queue.now c.index.result 0) is, l.auto.counts),
      λ _. entry_room r.queue.now r.head r.len m Q c.args.from l.i l.auto.i (omega arith) (get_or r.queue.now c.index.result 0) is l.counts l.invariant (get_or r.queue.now c.index.result 0 / 2),
    )

pub loop-i-preserved : goal.loop-i-preserved
loop-i-preserved c =
    let Q = c.requires.kmers_counted in
    let r = c.args.ring.now in
    let l = c.loop-i in
    let t = c.loop-i-test.true in
    let m = length c.args.counts.now in
    let is = ap (λ (k : ℕ). get_or r.queue.now k 0) c.index.ensures in
    let same : suc l.i ≡ l.i + 1 = omega arith in
    subst (λ (k : ℕ). Counted m c.raise_entry.new.counts (take (k - c.args.from) (drop c.args.from (entries_of r)))) same
    (subst (λ (x : List ℕ). Counted m x (take (suc l.i - c.args.from) (drop c.args.from (entries_of r)))) (sym c.raise_entry.ensures.counts_after)
    (entry_counted r.queue.now r.head r.len m Q c.args.from l.i l.auto.i (omega arith) (get_or r.queue.now c.index.result 0) is l.counts l.invariant))

pub returns : goal.returns
returns c =
    let r = c.args.ring.now in
    let l = c.loop-i in
    let t = c.loop-i-test.false in
    let inside = c.requires.inside in
    let end = l.auto.i-end inside in
    let long = entries_long r in
    let all : take (l.i - c.args.from) (drop c.args.from (entries_of r)) ≡ drop c.args.from (entries_of r) =
    ap (λ (k : ℕ). take k (drop c.args.from (entries_of r))) (let y : l.i - c.args.from ≡ length (drop c.args.from (entries_of r)) = omega (arith, length-drop c.args.from (entries_of r)) in y) ∙ take-length (drop c.args.from (entries_of r)) in
    subst (λ (q : List Place). Counted (length c.args.counts.now) l.counts q) all l.invariant
