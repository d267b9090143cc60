-- The request's checks, read from the front; the first that fails decides.
use Rattle.std.specs.Prelude.{ℕ, ◌+◌, ◌*◌, ◌/◌, Bool, false, ◌||◌, List, [], ◌∷◌, ltb, leb, length}
use Rattle.checks.specs.Checks.{Check, check, first}
use Rattle.checks.specs.Tests.{kmer_outside, any_high, any_other, too_few_letters, window_below, window_above, too_many_letters}
use Rattle.intervals.specs.declared.Interval.{Interval}
use Rattle.strongest.specs.Checks.{too_short_of, too_wide}
use Rattle.strongest_list.specs.Stretches.{Asked}

-- A region is empty or ends past letter n.
abbrev pub bad_region : ℕ → Interval → Bool
bad_region n i = leb i.end i.start || ltb n i.end

unfoldable pub any_bad_region : ℕ → List Interval → Bool
any_bad_region n [] = false
any_bad_region n (i ∷ is) = bad_region n i || any_bad_region n is

-- How many tiles are lent at least: one for each w + 4,096 letters, and one.
abbrev pub n_tiles : Asked → ℕ
n_tiles A = length A.sequence / (A.window_size + 4096) + 1

-- How many places are lent at least: those of a tile's ends, and those before them that its stretches may have.
abbrev pub n_places : Asked → ℕ
n_places A = 2 * A.window_size + 4096 + A.kmer

abbrev pub checks : Asked → ℕ → ℕ → ℕ → ℕ → List Check
checks A codes_len newest_len places_len tiles_len =
    let n : ℕ = length A.sequence in
    let k : ℕ = A.kmer in
    let w : ℕ = A.window_size in
    check 1 (kmer_outside k)  -- k is outside 1..12.
    ∷ check 2 (any_high A.sequence)  -- A byte is 128 or more.
    ∷ check 13 (any_other A.sequence)  -- Any other byte below 128 than A to Z in either case, - and *.
    ∷ check 3 (too_few_letters n k)  -- n is below k + 1.
    ∷ check 4 (window_below w k)  -- w is below k + 1.
    ∷ check 5 (window_above w)  -- w is above 65,535.
    ∷ check 10 (too_many_letters n)  -- n is above 2,147,483,647.
    ∷ check 16 (any_bad_region n A.regions)  -- A region is empty or ends past n.
    ∷ check 11 (too_short_of n k w (length A.ln) (length A.f) codes_len newest_len || ltb places_len (n_places A) || ltb tiles_len (n_tiles A))  -- A lent buffer is shorter than listed.
    ∷ check 20 (too_wide w A.threshold A.ln A.f)  -- T or a table entry of 1..w is outside its width.
    ∷ []

-- The number of the first check that fails; 0 if none does.
abbrev pub refusal : Asked → ℕ → ℕ → ℕ → ℕ → ℕ
refusal A codes_len newest_len places_len tiles_len = first (checks A codes_len newest_len places_len tiles_len)
