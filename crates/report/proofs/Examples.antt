-- The text that the paper gives for twenty A and for nine A, and the text of a refusal.
use Rattle.std.proofs.Common.{◌≡◌, refl, [], ◌∷◌}
use Rattle.intervals.specs.Interval.{interval}
use Rattle.report.specs.Ascii.{ascii}
use Rattle.report.specs.Text.{digit_count, decimal, lines, report, refusal_line}

twenty : report (interval 0 20 ∷ []) ≡ ascii "0\t20\nintervals 1\n"
unfolding lines decimal digit_count
twenty = refl

nine : report [] ≡ ascii "intervals 0\n"
unfolding lines decimal digit_count
nine = refl

refused : refusal_line 11 ≡ ascii "refused 11\n"
unfolding decimal digit_count
refused = refl
