-- The r letters before the end are not barred.
use Rattle.std.proofs.Common.{◌≤◌}
use Rattle.strongest_list.specs.Terms.Codes.{run_to}
use Rattle.strongest_list.proofs.search.free_back.Given as goal

abbrev pub invariant-loop-r : goal.invariant-loop-r
invariant-loop-r l = l.r ≤ run_to l.codes l.end
