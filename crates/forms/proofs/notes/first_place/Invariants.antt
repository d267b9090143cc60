use Rattle.std.proofs.Common.{◌≡◌, ◌+◌, drop}
use Rattle.forms.specs.Notes.{first_place}
use Rattle.forms.proofs.notes.first_place.Given as goal

abbrev pub invariant-loop-i : goal.invariant-loop-i
invariant-loop-i l = first_place l.high l.letters ≡ l.i + first_place l.high (drop l.i l.letters)
