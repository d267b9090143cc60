-- Each turn passes barred letters, and searches the ends after them.
use Rattle.std.proofs.Common.{ℕ, ◌≡◌, ◌<◌, ◌≤◌, subst, arith, ⊎_elim}
use Rattle.intervals.proofs.Order.{lt_or_le}
use Rattle.strongest_list.specs.Terms.Best.{score_of_codes, Picks}
use Rattle.strongest_list.specs.Terms.Tiles.{EndsIn}
use Rattle.strongest_list.proofs.Offering.{ends_none, barred_passed}
use Rattle.strongest_list.proofs.search.best_between.Goals as goal

pub rows-init : goal.rows-init
rows-init c = record { low = omega arith; high = omega (arith, c.requires.order); picks = ends_none c.args.request.now c.args.codes.now c.args.lo }

pub rows-smaller : goal.rows-smaller
rows-smaller c =
    ⊎_elim
    (λ (l : c.free_on-from.result < c.args.hi). omega (arith, c.free_on-from.ensures.low, c.rows-test.true, c.barred_on-to.ensures.high, c.barred_on-to.ensures.further l (c.free_on-from.ensures.free l)))
    (λ (l : c.args.hi ≤ c.free_on-from.result). omega (arith, c.rows-test.true, c.barred_on-to.ensures.low, c.barred_on-to.ensures.high))
    (lt_or_le c.free_on-from.result c.args.hi)

pub rows-preserved : goal.rows-preserved
rows-preserved c =
    let q = c.args.request.now in
    let cs = c.args.codes.now in
    let I = c.rows.invariant in
    record {
      low = omega (arith, I.low, c.free_on-from.ensures.low, c.barred_on-to.ensures.low);
      high = c.barred_on-to.ensures.high;
      picks = c.search_ends-best.ensures c.args.lo (omega (arith, I.low, c.free_on-from.ensures.low))
          (barred_passed q cs c.args.lo c.rows.end c.free_on-from.result c.rows.best c.free_on-from.ensures.barred I.picks c.free_on-from.ensures.low (omega (arith, c.requires.searchable.kmer_low)));
    }

pub returns : goal.returns
returns c =
    let q = c.args.request.now in
    let cs = c.args.codes.now in
    subst (λ (e : ℕ). Picks (score_of_codes q cs) (EndsIn q cs c.args.lo e) c.rows.best) (let z : c.rows.end ≡ c.args.hi = omega (arith, c.rows.invariant.high, c.rows-test.false) in z) c.rows.invariant.picks
