-- A request that was not refused has what the parts require.
use Rattle.std.proofs.Common.{length, sym, ap, ◌∙◌, arith, length-take-le}
use Rattle.checks.specs.Refusal.{number_of}
use Rattle.strongest_list.specs.Call.{asked_of}
use Rattle.strongest_list.proofs.Asking.{Admitted, admitted, searchable}
use Rattle.strongest_list.proofs.strongest_stretches.Goals as goal
use Rattle.strongest_list.proofs.strongest_stretches.Goals.{In_ok-check}

taken : (c : In_ok-check) → Admitted (asked_of c.args.request.now) (length c.args.codes.now) (length c.args.newest.now) (length c.args.places.now) (length c.args.tiles.now)
taken c = admitted (asked_of c.args.request.now) _ _ _ _ (sym c.check.ensures ∙ ap number_of c.in_ok-check.was)

pub slice_bounds-part-end : goal.slice_bounds-part-end
slice_bounds-part-end c = (taken (goal.at.slice_bounds-part-end c).In_ok-check).codes_long

pub slice_bounds-part-end-2 : goal.slice_bounds-part-end-2
slice_bounds-part-end-2 c = sym (length-take-le _ _ (taken (goal.at.slice_bounds-part-end-2 c).In_ok-check).codes_long)

pub show_regions-requires-clause-long : goal.show_regions-requires-clause-long
show_regions-requires-clause-long c = length-take-le _ _ (taken (goal.at.show_regions-requires-clause-long c).In_ok-check).codes_long

pub slice_bounds-list_strongest-end : goal.slice_bounds-list_strongest-end
slice_bounds-list_strongest-end c = omega (arith, c.n_kmers-size.ensures, (taken (goal.at.slice_bounds-list_strongest-end c).In_ok-check).newest_long)

pub slice_bounds-list_strongest-end-2 : goal.slice_bounds-list_strongest-end-2
slice_bounds-list_strongest-end-2 c = sym (length-take-le _ _ (omega (arith, c.n_kmers-size.ensures, (taken (goal.at.slice_bounds-list_strongest-end-2 c).In_ok-check).newest_long)))

pub list_strongest-count-requires-clause-searchable : goal.list_strongest-count-requires-clause-searchable
list_strongest-count-requires-clause-searchable c = searchable c.args.request.now _ _ _ _ (taken (goal.at.list_strongest-count-requires-clause-searchable c).In_ok-check)

pub list_strongest-count-requires-clause-newest : goal.list_strongest-count-requires-clause-newest
list_strongest-count-requires-clause-newest c =
    length-take-le _ _ (omega (arith, c.n_kmers-size.ensures, (taken (goal.at.list_strongest-count-requires-clause-newest c).In_ok-check).newest_long)) ∙ c.n_kmers-size.ensures

pub list_strongest-count-requires-clause-places : goal.list_strongest-count-requires-clause-places
list_strongest-count-requires-clause-places c =
    length-take-le _ _ (taken (goal.at.list_strongest-count-requires-clause-places c).In_ok-check).places_long
