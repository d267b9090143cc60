use Rattle.std.proofs.Common.{◌≡◌, ◌++◌, take}
use Rattle.forms.specs.Notes.{shown}
use Rattle.forms.proofs.notes.add_shown.Given as goal

abbrev pub invariant-loop-i : goal.invariant-loop-i
invariant-loop-i l = l.text.items ≡ l.initial.text.items ++ shown (take l.i l.name)
