use Rattle.std.proofs.Common.{◌≤◌, ◌≡◌, take}
use Rattle.replay.specs.Words.{decimal}
use Rattle.replay.proofs.words.Words.number.Given as goal

abbrev pub invariant-loop-i : goal.invariant-loop-i
invariant-loop-i l = record {
  unread : l.self.rest.now ≡ l.rest;
  within : l.number ≤ l.most;
  value : l.number ≡ decimal 0 (take l.i l.rest);
}
