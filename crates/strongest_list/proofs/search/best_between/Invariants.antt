-- The ends before `end` were searched.
use Rattle.std.proofs.Common.{◌≤◌, ◌-◌}
use Rattle.strongest_list.specs.Terms.Best.{score_of_codes, Picks}
use Rattle.strongest_list.specs.Terms.Tiles.{EndsIn}
use Rattle.strongest_list.proofs.search.best_between.Given as goal

abbrev pub invariant-rows : goal.invariant-rows
invariant-rows l =
    record {
      low : l.lo ≤ l.end;
      high : l.end ≤ l.hi;
      picks : Picks (score_of_codes l.request l.codes) (EndsIn l.request l.codes l.lo l.end) l.best;
    }

abbrev pub decreases-rows : goal.decreases-rows
decreases-rows l = l.hi - l.end
