-- The paper, 'Which form to use where', 'queue entries shift once more for the ambiguity bit': a place as a number of 32 bits in the queue, the ambiguity bit lowest.
use Rattle.std.specs.Prelude.{ℕ, ◌/◌, ◌%◌, cond, List, map, ◌==◌, Option, None, Some}
use Rattle.letters.specs.Place.{Place, ambiguous, plain}

-- An even number is plain, an odd one ambiguous, whatever its other bits hold.
unfoldable pub decode : ℕ → Place
decode e = cond (e % 2 == 0) (plain (e / 2)) ambiguous

-- The place of a k-mer, ambiguous where there is none.
abbrev pub place_of : Option ℕ → Place
place_of None = ambiguous
place_of (Some x) = plain x

unfoldable pub decoded : List ℕ → List Place
decoded es = map decode es
