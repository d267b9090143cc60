-- The small profile (L13): k up to 6, w up to 4,096, n up to 4,096 and uniform GC, and the checks of a request.
use Rattle.std.specs.Prelude.{ℕ, ◌*◌, Bool, true, false, ◌||◌, List, [], ◌∷◌, ltb, length}
use Rattle.checks.specs.Checks.{Check, check, first}
use Rattle.checks.specs.Tests.{kmer_outside, any_high, any_other, too_few_letters, window_below, window_above, threshold_bad, min_start_below, most_intervals}
use Rattle.tables.specs.declared.GcOption.{GcOption}
use Rattle.tables.specs.declared.GcOption.TheVariants.{Uniform, Fixed, Auto}
use Rattle.longdust.specs.declared.LongdustOptions.{LongdustOptions}
use Rattle.longdust.specs.Checks.{xdrop_bad}

unfoldable pub not_uniform : GcOption → Bool
not_uniform Uniform = false
not_uniform (Fixed x) = true
not_uniform Auto = true

-- 21. The request is outside the profile, n being the number of letters.
unfoldable pub outside : LongdustOptions → ℕ → Bool
outside o n = ltb 6 o.kmer || ltb 4096 o.window_size || ltb 4096 n || not_uniform o.gc

-- The checks of a request with an output of so many bytes; 8 bytes for each of R intervals.
abbrev pub checks : LongdustOptions → List ℕ → ℕ → List Check
checks o s room =
    let n : ℕ = length s in
    let k : ℕ = o.kmer in
    let w : ℕ = o.window_size in
    check 1 (kmer_outside k)  -- k is outside 1..12.
    ∷ check 2 (any_high s)  -- A byte is 128 or more.
    ∷ check 13 (any_other s)  -- Any other byte below 128 than A to Z in either case, - and *.
    ∷ check 3 (too_few_letters n k)  -- n is below k + 1.
    ∷ check 4 (window_below w k)  -- w is below k + 1.
    ∷ check 5 (window_above w)  -- w is above 65,535.
    ∷ check 6 (threshold_bad o.score_threshold)  -- T is infinite, not a number, or not above 0.
    ∷ check 8 (min_start_below o.min_start_cnt)  -- min_start_cnt is below 2.
    ∷ check 9 (xdrop_bad o.xdrop)  -- xdrop is 0 (none passes).
    ∷ check 21 (outside o n)  -- The request is outside the profile.
    ∷ check 11 (ltb room (8 * most_intervals n k))  -- The output is shorter than 8 R bytes.
    ∷ []

-- The number of the first check that fails; 0 if none does.
abbrev pub refusal : LongdustOptions → List ℕ → ℕ → ℕ
refusal o s room = first (checks o s room)
