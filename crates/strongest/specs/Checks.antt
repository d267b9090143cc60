-- The request's checks, read from the front; the first that fails decides.
use Rattle.std.specs.Prelude.{ℕ, ◌+◌, ◌^◌, Bool, not, ◌||◌, List, [], ◌∷◌, ltb, leb, eqb, length}
use Rattle.checks.specs.Checks.{Check, check, first}
use Rattle.checks.specs.Tests.{kmer_outside, any_high, any_other, too_few_letters, window_below, window_above, too_many_letters}
use Rattle.strongest.specs.Strongest.{Asked, largest}

-- A lent buffer is shorter than listed; the tables and the buffers for codes and scan counts have so many entries.
unfoldable pub too_short_of : ℕ → ℕ → ℕ → ℕ → ℕ → ℕ → ℕ → Bool
too_short_of n k w ln_len f_len codes_len counts_len = ltb ln_len (w + 1) || ltb f_len (w + 2) || ltb codes_len n || ltb counts_len (4 ^ k)

-- T or a table entry of 1..w is outside its width: T and ln below 2^36, f below 2^52.
unfoldable pub too_wide : ℕ → ℕ → List ℕ → List ℕ → Bool
too_wide w t ln f = leb (2 ^ 36) t || leb (2 ^ 36) (largest ln w) || leb (2 ^ 52) (largest f w)

abbrev pub checks : Asked → ℕ → ℕ → List Check
checks Q codes_len counts_len =
    let n : ℕ = length Q.sequence in
    let k : ℕ = Q.kmer in
    let w : ℕ = Q.window_size in
    check 1 (kmer_outside k)  -- k is outside 1..12.
    ∷ check 2 (any_high Q.sequence)  -- A byte is 128 or more.
    ∷ check 13 (any_other Q.sequence)  -- Any other byte below 128 than A to Z in either case, - and *.
    ∷ check 3 (too_few_letters n k)  -- n is below k + 1.
    ∷ check 4 (window_below w k)  -- w is below k + 1.
    ∷ check 5 (window_above w)  -- w is above 65,535.
    ∷ check 10 (too_many_letters n)  -- n is above 2,147,483,647.
    ∷ check 11 (too_short_of n k w (length Q.ln) (length Q.f) codes_len counts_len)  -- A lent buffer is shorter than listed.
    ∷ check 18 (eqb Q.budget 0)  -- A budget of 0.
    ∷ check 19 (not (ltb Q.place n))  -- b is not below n.
    ∷ check 20 (too_wide w Q.threshold Q.ln Q.f)  -- T or a table entry of 1..w is outside its width.
    ∷ []

-- The number of the first check that fails; 0 if none does.
abbrev pub refusal : Asked → ℕ → ℕ → ℕ
refusal Q codes_len counts_len = first (checks Q codes_len counts_len)
