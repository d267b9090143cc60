-- The paper, 'Letters and places': the places of a strand and their k-mers. `s` is the strand's list of codes.
use Rattle.std.specs.Prelude.{ℕ, zero, suc, ◌+◌, ◌*◌, ◌<◌, ◌≤◌, Bool, true, false, cond, ◌&&◌, List, [], ◌∷◌, length, nat_lt, slice_index_or}

pub data Place : Type 0 where
  ambiguous : Place
  plain : ℕ → Place

-- The j newest of the first m letters, two bits a letter, newest lowest.
unfoldable pub packed : List ℕ → ℕ → ℕ → ℕ
packed s m zero = 0
packed s zero (suc j) = 0
packed s (suc m) (suc j) = packed s m j * 4 + slice_index_or s m 4

-- The j newest of the first m letters all exist and have codes below 4.
unfoldable pub all_plain : List ℕ → ℕ → ℕ → Bool
all_plain s m zero = true
all_plain s zero (suc j) = false
all_plain s (suc m) (suc j) = nat_lt (slice_index_or s m 4) 4 && all_plain s m j

-- Place p is plain when letters p-k+1..p all exist and have codes below 4.
unfoldable pub place_at : ℕ → List ℕ → ℕ → Place
place_at k s p = cond (all_plain s (suc p) k) (plain (packed s (suc p) k)) ambiguous

-- The m places from p on.
unfoldable pub places_from : ℕ → List ℕ → ℕ → ℕ → List Place
places_from k s p zero = []
places_from k s p (suc m) = place_at k s p ∷ places_from k s (suc p) m

unfoldable pub places : ℕ → List ℕ → List Place
places k s = places_from k s 0 (length s)

-- A term of laws: the k-mer of a plain place lies below m.
abbrev pub BelowAt : ℕ → Place → Type 0
BelowAt m ambiguous = Unit {0}
BelowAt m (plain x) = x < m

abbrev pub Below : ℕ → List Place → Type 0
Below m [] = Unit {0}
Below m (p ∷ ps) = BelowAt m p × Below m ps

-- A term of laws: a plain place p has k letters up to it.
abbrev pub ReadAt : ℕ → ℕ → Place → Type 0
ReadAt k p ambiguous = Unit {0}
ReadAt k p (plain x) = k ≤ p + 1

-- The places from p on have.
abbrev pub ReadFrom : ℕ → ℕ → List Place → Type 0
ReadFrom k p [] = Unit {0}
ReadFrom k p (e ∷ es) = ReadAt k p e × ReadFrom k (p + 1) es
