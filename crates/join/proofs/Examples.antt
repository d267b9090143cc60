-- Our intervals [0, 5) seen forward and [9, 12) seen in reverse, and theirs [5, 7) and [10, 14), joined in 14 letters.
use Rattle.std.proofs.Common.{◌≡◌, refl, List, [], ◌∷◌, ℕ}
use Rattle.intervals.specs.declared.Interval.{Interval}
use Rattle.intervals.specs.Interval.{interval, covered, usual_from}
use Rattle.intervals.specs.Save.{staying, save}
use Rattle.join.specs.Stretches.{stretches}
use Rattle.join.specs.Joining.{joined, joined_marks, marks_for, seen, refusal}
use Rattle.join.specs.declared.Joined.TheVariants.{Either, Both, Outside}

abbrev ours : List Interval
ours = interval 0 5 ∷ interval 9 12 ∷ []

abbrev theirs : List Interval
theirs = interval 5 7 ∷ interval 10 14 ∷ []

abbrev marks : List ℕ
marks = 1 ∷ 2 ∷ []

in_either : joined Either 14 ours theirs ≡ interval 0 7 ∷ interval 9 14 ∷ []
unfolding joined stretches covered save staying
in_either = refl

in_both : joined Both 14 ours theirs ≡ interval 10 12 ∷ []
unfolding joined stretches covered save staying
in_both = refl

outside_theirs : joined Outside 14 ours theirs ≡ interval 0 5 ∷ interval 9 10 ∷ []
unfolding joined stretches covered save staying
outside_theirs = refl

-- [0, 7) has the mark of [0, 5) alone; what is theirs alone has none.
marks_of_either : joined_marks Either 14 ours marks theirs ≡ 1 ∷ 2 ∷ []
unfolding joined stretches covered save staying marks_for seen
marks_of_either = refl

marks_of_both : joined_marks Both 14 ours marks theirs ≡ 2 ∷ []
unfolding joined stretches covered save staying marks_for seen
marks_of_both = refl

marks_of_theirs : joined_marks Either 8 [] [] (interval 5 7 ∷ []) ≡ 0 ∷ []
unfolding joined stretches covered save staying marks_for seen
marks_of_theirs = refl

-- One of theirs joins both of ours, and the byte's other bits don't count.
marks_joined : joined_marks Either 12 ours (5 ∷ 254 ∷ []) (interval 4 9 ∷ []) ≡ 3 ∷ []
unfolding joined stretches covered save staying marks_for seen
marks_joined = refl

-- Too many letters come first, then a list that is not of the usual kind, ours or theirs, then short slices.
refused_letters : refusal 2147483648 (interval 3 3 ∷ []) [] [] 0 0 ≡ 10
unfolding usual_from
refused_letters = refl

refused_empty : refusal 14 (interval 3 3 ∷ []) [] theirs 0 0 ≡ 16
unfolding usual_from
refused_empty = refl

refused_touching : refusal 14 ours marks (interval 5 7 ∷ interval 7 9 ∷ []) 0 0 ≡ 16
unfolding usual_from
refused_touching = refl

refused_past : refusal 13 ours marks theirs 4 4 ≡ 16
unfolding usual_from
refused_past = refl

refused_short : refusal 14 ours marks theirs 4 3 ≡ 11
unfolding usual_from
refused_short = refl

accepted_both : refusal 14 ours marks theirs 4 4 ≡ 0
unfolding usual_from
accepted_both = refl
