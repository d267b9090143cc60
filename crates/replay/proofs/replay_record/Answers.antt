use Rattle.replay.specs.Words.{Follows}
use Rattle.replay.proofs.Following.{then}
use Rattle.replay.proofs.replay_record.Goals as goal
use Rattle.replay.proofs.replay_record.Goals.{After-sequence, then-head+in_ok-tables, else-head}

-- After the letters, whether there were tables before them or not.
read : (c : After-sequence) → Follows c.args.words.now.rest.now c.sequence.new.words.rest.now
read c =
    then {ys = c.if-head.words.rest.now}
    (elim c.if-head.branch [
      | then-head+in_ok-tables w ↦ rw w.words-is (then c.head.ensures.follows w.tables.ensures)
      | else-head w ↦ rw w.words-is c.head.ensures.follows
    ])
    c.sequence.ensures.follows

pub returns : goal.returns
returns c = then (read (goal.at.returns c).After-sequence) c.compare.ensures
