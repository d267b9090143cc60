-- Each turn joins a place, and searches it as an end.
use Rattle.std.proofs.Common.{ℕ, ◌≡◌, ◌+◌, ◌-◌, max, length, subst, arith}
use Rattle.strongest_list.specs.Terms.Best.{score_of_codes, Picks}
use Rattle.strongest_list.specs.Terms.Tiles.{EndsIn}
use Rattle.letters.proofs.Rolling.{run_few}
use Rattle.strongest_list.proofs.Gains.{value_small}
use Rattle.strongest_list.proofs.Scanning.{scanned_none, scanned_more, all_none, join_linked, next_small, entry_small, linked_now, capped_now}
use Rattle.strongest_list.proofs.rows.search_row.Goals as goal

pub loop-n-init : goal.loop-n-init
loop-n-init c =
    let a = c.args in
    scanned_none a.request.now a.row a.letters.now a.best c.new-kmer.result a.places.now a.newest.now _ c.new-kmer.ensures (λ j h. all_none 2113 j)

pub next-kmer-requires : goal.next-kmer-requires
next-kmer-requires c =
    let g = c.loop-n in
    (c.requires.searchable.kmer_high, omega (arith, run_few c.args.request.now.kmer c.args.letters.now g.n g.kmer g.invariant.kmer_is, c.loop-n-test.true, c.requires.first))

pub entry-entry-requires : goal.entry-entry-requires
entry-entry-requires c =
    let a = c.args in
    let g = c.loop-n in
    let s = c.requires.searchable in
    next_small a.request.now a.row a.letters.now a.best g.reached.best g.n g.kmer g.reached.ceiling g.places g.newest g.blocks g.invariant c.loop-n-test.true (omega (arith, s.kmer_low)) s.kmer_high s.window_high s.narrow c.next-kmer.result c.next-kmer.ensures

pub join-order-requires-clause-long : goal.join-order-requires-clause-long
join-order-requires-clause-long c =
    let a = c.args in
    let g = c.loop-n in
    let s = c.requires.searchable in
    omega (arith, entry_small a.request.now a.row a.letters.now a.best g.reached.best g.n g.kmer g.reached.ceiling g.places g.newest g.blocks g.invariant c.loop-n-test.true (omega (arith, s.kmer_low)) s.kmer_high s.window_high s.narrow c.next-kmer.result c.next-kmer.ensures, c.entry-entry.ensures, c.requires.newest, g.auto.newest)

pub join-order-requires-clause-linked : goal.join-order-requires-clause-linked
join-order-requires-clause-linked c =
    let a = c.args in
    let g = c.loop-n in
    let s = c.requires.searchable in
    join_linked a.request.now a.row a.letters.now a.best g.reached.best g.n g.kmer g.reached.ceiling g.places g.newest g.blocks g.invariant c.loop-n-test.true (omega (arith, s.kmer_low)) s.kmer_high s.window_high s.narrow (g.n + 1 - c.min-steps.result) (omega (arith, c.min-steps.ensures, c.saturating_sub-whole.ensures))

pub overflow_add-most : goal.overflow_add-most
overflow_add-most c =
    let s = c.requires.searchable in
    let t = c.args.request.now.scoring in
    omega (arith, c.min.ensures, c.value-gained.ensures, value_small t.threshold t.ln.now t.f.now c.args.request.now.window_size c.join-order.result s.narrow c.join-order.ensures.most)

pub judge-reached-requires-clause-blocked : goal.judge-reached-requires-clause-blocked
judge-reached-requires-clause-blocked c =
    let a = c.args in
    let g = c.loop-n in
    let s = c.requires.searchable in
    (linked_now a.request.now a.row a.letters.now a.best g.reached.best g.n g.kmer g.reached.ceiling g.places g.newest g.blocks g.invariant c.loop-n-test.true (omega (arith, s.kmer_low)) s.kmer_high s.window_high s.narrow c.next-kmer.result c.next-kmer.ensures (g.n + 1 - c.min-steps.result) c.entry-entry.result c.join-order.result (omega (arith, c.min-steps.ensures, c.saturating_sub-whole.ensures)) c.entry-entry.ensures c.join-order.new.places c.join-order.new.newest c.join-order.new.blocks c.join-order.ensures.linked c.join-order.ensures.joins c.join-order.ensures.least c.join-order.ensures.most).blocked

pub judge-reached-requires-clause-capped : goal.judge-reached-requires-clause-capped
judge-reached-requires-clause-capped c h =
    let a = c.args in
    let g = c.loop-n in
    let s = c.requires.searchable in
    capped_now a.request.now a.row a.letters.now a.best g.reached.best g.n g.kmer g.reached.ceiling g.places g.newest g.blocks g.invariant c.loop-n-test.true (omega (arith, s.kmer_low)) s.kmer_high s.window_high s.narrow c.next-kmer.result c.next-kmer.ensures (g.n + 1 - c.min-steps.result) c.entry-entry.result c.join-order.result (omega (arith, c.min-steps.ensures, c.saturating_sub-whole.ensures)) c.entry-entry.ensures c.join-order.new.places c.join-order.new.newest c.join-order.new.blocks c.join-order.ensures.linked c.join-order.ensures.joins c.join-order.ensures.least c.join-order.ensures.most h (c.requires.ln h) (c.requires.f h) c.saturating_sub-ceiling.result (omega (arith, c.saturating_sub-ceiling.ensures, c.min.ensures, c.value-gained.ensures))

pub loop-n-preserved : goal.loop-n-preserved
loop-n-preserved c =
    let a = c.args in
    let g = c.loop-n in
    let s = c.requires.searchable in
    let e = c.judge-reached.ensures in
    scanned_more a.request.now a.row a.letters.now a.best g.reached.best g.n g.kmer g.reached.ceiling g.places g.newest g.blocks g.invariant c.loop-n-test.true (omega (arith, s.kmer_low)) s.kmer_high s.window_high s.narrow c.next-kmer.result c.next-kmer.ensures (g.n + 1 - c.min-steps.result) c.entry-entry.result c.join-order.result (omega (arith, c.min-steps.ensures, c.saturating_sub-whole.ensures)) c.entry-entry.ensures c.join-order.new.places c.join-order.new.newest c.join-order.new.blocks c.join-order.ensures.linked c.join-order.ensures.joins c.join-order.ensures.least c.join-order.ensures.most c.judge-reached.result.best c.judge-reached.result.ceiling c.judge-reached.new.blocks e.early e.best e.capped e.blocked

pub returns : goal.returns
returns c =
    let a = c.args in
    let g = c.loop-n in
    record {
      at = λ cs lo R h p.
          subst (λ (n : ℕ). Picks (score_of_codes a.request.now cs) (EndsIn a.request.now cs lo (a.row.first + n)) g.reached.best) (let z : max a.row.before g.n ≡ length a.letters.now = omega (arith, R.before_in, c.loop-n-test.false, g.auto.n-end) in z)
          (g.invariant.picks cs lo R h p);
    }
