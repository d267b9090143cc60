-- 'Checking order': the checks of a sequence, k and w that the calls begin with.
use Rattle.std.specs.Prelude.{ℕ, List, [], ◌∷◌, length}
use Rattle.checks.specs.Checks.{Check, check}
use Rattle.checks.specs.Tests.{kmer_outside, any_high, any_other, too_few_letters, window_below, window_above}

abbrev pub sequence_checks : List ℕ → ℕ → ℕ → List Check
sequence_checks s k w =
    check 1 (kmer_outside k)
    ∷ check 2 (any_high s)
    ∷ check 13 (any_other s)
    ∷ check 3 (too_few_letters (length s) k)
    ∷ check 4 (window_below w k)
    ∷ check 5 (window_above w)
    ∷ []
