-- The top tile is searched again while it is stale.
use Rattle.std.proofs.Common.{length, sym, subst, ◌∙◌, Option}
use Rattle.strongest_list.specs.declared.search.Candidate.{Candidate}
use Rattle.strongest_list.specs.Terms.Best.{Before, Picks}
use Rattle.strongest_list.specs.Terms.Tiles.{true_score}
use Rattle.strongest_list.proofs.Tiling.{top_picks, knows_set, fewer_stale, stale_here}
use Rattle.strongest_list.proofs.tiles.next_best.Goals as goal

pub again-smaller : goal.again-smaller
again-smaller c =
    let h = stale_here c.again.tiles c.again.t (sym c.is_stale.ensures ∙ c.again-test.true) in
    fewer_stale c.again.tiles c.again.t c.search_tile.result h.0 h.1 c.search_tile.ensures.fresh

pub again-preserved : goal.again-preserved
again-preserved c =
    let h = stale_here c.again.tiles c.again.t (sym c.is_stale.ensures ∙ c.again-test.true) in
    record { knows = knows_set c.args.request.now c.args.codes.now c.again.tiles c.again.t c.search_tile.result h.0 c.search_tile.ensures.knows c.again.invariant.knows; top = c.top-t-in-again.ensures }

pub returns-clause-picks : goal.returns-clause-picks
returns-clause-picks c =
    subst (λ (o : Option Candidate). Picks (true_score c.args.request.now) (Before c.args.request.now c.args.codes.now (length c.args.codes.now)) o) (sym c.best_of.ensures)
    (top_picks c.args.request.now c.args.codes.now c.again.tiles c.again.t c.again.invariant.knows c.again.invariant.top (sym c.is_stale.ensures ∙ c.again-test.false))
