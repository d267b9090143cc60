-- The lines before i.
use Rattle.std.specs.Prelude.{◌≡◌, ◌++◌}
use Rattle.strongest_list.specs.Call.{asked_of}
use Rattle.ranking.specs.Text.{each}
use Rattle.ranking.specs.Ranking.{line}
use Rattle.ranking.specs.Terms.Room.{SameRoom}
use Rattle.ranking.proofs.lines.Listed.add_lines.Given as goal

abbrev pub invariant-loop-i : goal.invariant-loop-i
invariant-loop-i l =
    record {
      text_is : l.text.items ≡ l.initial.text.items ++ each (line l.self.name.now (asked_of l.self.request.now) l.self.letters.now l.self.scores.now) l.i;
      room : SameRoom l.initial.counting l.counting;
    }
