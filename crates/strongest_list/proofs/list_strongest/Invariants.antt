-- After i turns the list for i entries stands in the lent lists, and its letters and those beside them are barred.
use Rattle.std.proofs.Common.{◌≡◌, length}
use Rattle.strongest_list.specs.Stretches.{strongest}
use Rattle.strongest_list.specs.Call.{asked_of}
use Rattle.strongest_list.specs.Terms.Listed.{Lists}
use Rattle.strongest_list.specs.Terms.Codes.{Shows}
use Rattle.strongest_list.specs.Terms.Tiles.{Knows}
use Rattle.strongest_list.proofs.list_strongest.Given as goal

abbrev pub invariant-loop-i : goal.invariant-loop-i
invariant-loop-i l =
    record {
      full : length (strongest (asked_of l.request) l.i) ≡ l.i;
      shows : Shows (asked_of l.request) (strongest (asked_of l.request) l.i) l.codes;
      knows : Knows l.request l.codes l.tiles;
      listed : Lists (asked_of l.request) (strongest (asked_of l.request) l.i) l.initial.letters l.letters l.initial.scores l.scores;
    }
