-- The paper, 'Checking order': the checks of both calls, read from the front; the first that fails decides.
use Rattle.std.specs.Prelude.{ℕ, ◌+◌, ◌^◌, Bool, false, not, Option, None, Some, ◌&&◌, ◌||◌, List, [], ◌∷◌, ltb, eqb, length}
use Rattle.std.specs.Float.Ieee.{le}
use Rattle.floats.specs.Binary64.{zero64, one64}
use Rattle.checks.specs.Checks.{Check, check, first}
use Rattle.checks.specs.Tests.{kmer_outside, any_high, any_other, too_few_letters, window_below, window_above, threshold_bad}
use Rattle.checks.specs.Tests.{min_start_below, too_many_letters, most_intervals}
use Rattle.tables.specs.declared.GcOption.{GcOption}
use Rattle.tables.specs.declared.GcOption.TheVariants.{Uniform, Fixed, Auto}
use Rattle.longdust.specs.declared.LongdustOptions.{LongdustOptions}
use Rattle.longdust.specs.declared.Lent.{Lent}

-- A fixed GC is not a number or outside 0..1 (minus zero passes).
unfoldable pub gc_bad : GcOption → Bool
gc_bad Uniform = false
gc_bad (Fixed x) = not (le zero64 x && le x one64)
gc_bad Auto = false

-- xdrop is 0 (none passes).
unfoldable pub xdrop_bad : Option ℕ → Bool
xdrop_bad None = false
xdrop_bad (Some l) = eqb l 0

-- A lent buffer is shorter than listed.
unfoldable pub too_short_of : ℕ → ℕ → ℕ → Lent → Bool
too_short_of n k w b =
    let R : ℕ = most_intervals n k in
    ltb b.ln (w + 1) || ltb b.f (w + 2) || ltb b.queue w || ltb b.window_counts (4 ^ k) || ltb b.scan_counts (4 ^ k)
    || ltb b.candidates w || ltb b.codes n || ltb b.reverse_codes n
    || ltb b.forward_list R || ltb b.reverse_list R || ltb b.list R || ltb b.marks R

-- Where it is known whether one is.
abbrev pub request_checks : LongdustOptions → List ℕ → Bool → List Check
request_checks o s too_short =
    let n : ℕ = length s in
    let k : ℕ = o.kmer in
    let w : ℕ = o.window_size in
    check 1 (kmer_outside k)  -- k is outside 1..12.
    ∷ check 2 (any_high s)  -- A byte is 128 or more.
    ∷ check 13 (any_other s)  -- Any other byte below 128 than A to Z in either case, - and *.
    ∷ check 3 (too_few_letters n k)  -- n is below k + 1.
    ∷ check 4 (window_below w k)  -- w is below k + 1.
    ∷ check 5 (window_above w)  -- w is above 65,535.
    ∷ check 6 (threshold_bad o.score_threshold)  -- T is infinite, not a number, or not above 0.
    ∷ check 7 (gc_bad o.gc)  -- A fixed GC is not a number or outside 0..1 (minus zero passes).
    ∷ check 8 (min_start_below o.min_start_cnt)  -- min_start_cnt is below 2.
    ∷ check 9 (xdrop_bad o.xdrop)  -- xdrop is 0 (none passes).
    ∷ check 10 (too_many_letters n)  -- Added: n is above 2,147,483,647.
    ∷ check 11 too_short  -- Added: a lent buffer is shorter than listed.
    ∷ []

abbrev pub checks : LongdustOptions → List ℕ → Lent → List Check
checks o s b = request_checks o s (too_short_of (length s) o.kmer o.window_size b)

-- The number of the first check that fails; 0 if none does.
abbrev pub refusal : LongdustOptions → List ℕ → Lent → ℕ
refusal o s b = first (checks o s b)
