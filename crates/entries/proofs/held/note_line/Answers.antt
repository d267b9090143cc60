use Rattle.std.proofs.Common.{refl, rules}
use Rattle.entries.proofs.Kept.{line_longer, line_other}
use Rattle.entries.proofs.held.note_line.Goals as goal

pub returns-then-run-letters : goal.returns-then-run-letters
returns-then-run-letters c = line_longer _ _ _ _ refl refl (search rules)

pub returns : goal.returns
returns c = line_other _ _ _ _ _ c.in_ok-push.ensures.items refl refl
