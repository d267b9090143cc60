-- The paper, 'Checking order': the single tests, on plain data. A test says that its check fails.
use Rattle.std.specs.Prelude.{ℕ, ◌+◌, ◌/◌, Bool, false, not, ◌&&◌, ◌||◌, List, [], ◌∷◌, ltb, leb, eqb, Float}
use Prim.Native.Char.{code}
use Rattle.std.specs.Float.{inf}
use Rattle.std.specs.Float.Ieee.{lt}
use Rattle.floats.specs.Binary64.{zero64}

-- 1. k is outside 1..12.
abbrev pub kmer_outside : ℕ → Bool
kmer_outside k = ltb k 1 || ltb 12 k

-- One of the bytes passes a test.
unfoldable pub any_byte : (ℕ → Bool) → List ℕ → Bool
any_byte test [] = false
any_byte test (b ∷ bs) = test b || any_byte test bs

-- 2. A byte is 128 or more.
abbrev pub is_high : ℕ → Bool
is_high b = leb 128 b

abbrev pub any_high : List ℕ → Bool
any_high s = any_byte is_high s

-- 13. A byte below 128 is not accepted: no letter A to Z in either case, no - and no *.
abbrev pub is_accepted : ℕ → Bool
is_accepted b = leb (code "A") b && leb b (code "Z") || leb (code "a") b && leb b (code "z") || eqb b (code "-") || eqb b (code "*")

abbrev pub is_other : ℕ → Bool
is_other b = ltb b 128 && not (is_accepted b)

abbrev pub any_other : List ℕ → Bool
any_other s = any_byte is_other s

-- 3. There are fewer than k + 1 letters.
abbrev pub too_few_letters : ℕ → ℕ → Bool
too_few_letters n k = ltb n (k + 1)

-- 4. The window is below k + 1.
abbrev pub window_below : ℕ → ℕ → Bool
window_below w k = ltb w (k + 1)

-- 5. The window is above 65,535.
abbrev pub window_above : ℕ → Bool
window_above w = ltb 65535 w

-- 6. T is infinite, not a number, or not above 0.
unfoldable pub threshold_bad : Float → Bool
threshold_bad t = not (lt zero64 t && lt t (inf false))

-- 8. min_start_cnt is below 2.
abbrev pub min_start_below : ℕ → Bool
min_start_below c = ltb c 2

-- 10. There are more than 2,147,483,647 letters.
abbrev pub too_many_letters : ℕ → Bool
too_many_letters n = ltb 2147483647 n

-- R, the most intervals that a list of n letters can have, and so the entries that its slice must have.
abbrev pub most_intervals : ℕ → ℕ → ℕ
most_intervals n k = (n + 1) / (k + 1)
