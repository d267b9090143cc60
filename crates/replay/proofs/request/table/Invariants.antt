use Rattle.std.proofs.Common.{◌≤◌, length}
use Rattle.replay.specs.Words.{Follows}
use Rattle.replay.proofs.request.table.Given as goal

abbrev pub invariant-loop : goal.invariant-loop
invariant-loop l = record {
  within : l.filled ≤ length l.table;
  follows : Follows l.initial.words.rest.now l.words.rest.now;
}
