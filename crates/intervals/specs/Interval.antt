-- The paper, 'Records' and 'Both strands': intervals of letters, the letters that a list of them covers, the shape of a mask, and a list in a slice.
use Rattle.std.specs.Prelude.{ℕ, zero, suc, ◌+◌, ◌≤◌, ◌<◌, ◌≡◌, Bool, true, false, ◌&&◌, ◌||◌, cond, List, [], ◌∷◌, ◌⊎◌, ltb, leb, length}
use Rattle.buffers.specs.Fill.{put}
use Rattle.intervals.specs.declared.Interval.{Interval}

-- [start, end): the letters start, start + 1, .., end - 1.
abbrev pub interval : ℕ → ℕ → Interval
interval s e = record { start = s; end = e }

-- Letter x lies in the interval; in an interval of the list.
abbrev pub Holds : Interval → ℕ → Type 0
Holds i x = (i.start ≤ x) × (x < i.end)

abbrev pub Covers : List Interval → ℕ → Type 0
Covers [] x = ⊥
Covers (i ∷ is) x = Holds i x ⊎ Covers is x

-- The same, as a test.
unfoldable pub covered : List Interval → ℕ → Bool
covered [] x = false
covered (i ∷ is) x = (leb i.start x && ltb x i.end) || covered is x

-- How many letters x with a <= x < b the list covers.
unfoldable pub covered_in : List Interval → ℕ → ℕ → ℕ
covered_in is a zero = 0
covered_in is a (suc b) = covered_in is a b + cond (leb a b && covered is b) 1 0

-- From letter lo on and within n letters, each interval of at least k letters, with a letter or more between two.
abbrev pub Ascending : ℕ → ℕ → ℕ → List Interval → Type 0
Ascending n k lo [] = Unit
Ascending n k lo (i ∷ is) = (lo ≤ i.start) × (i.start + k ≤ i.end) × (i.end ≤ n) × Ascending n k (i.end + 1) is

-- The shape of a mask of n letters.
abbrev pub Canonical : ℕ → ℕ → List Interval → Type 0
Canonical n k is = Ascending n k 0 is

-- A list of the usual kind, as a test: `Canonical n 1`. One entry that may stand from letter lo on; all of them.
abbrev pub usual_entry : ℕ → ℕ → ℕ → ℕ → Bool
usual_entry n lo s e = leb lo s && (ltb s e && leb e n)

unfoldable pub usual_from : ℕ → ℕ → List Interval → Bool
usual_from n lo [] = true
usual_from n lo (i ∷ is) = usual_entry n lo i.start i.end && usual_from n (i.end + 1) is

abbrev pub usual : ℕ → List Interval → Bool
usual n is = usual_from n 0 is

-- The list was written to the front of a slice xs, which is now xs', and has count intervals.
pub record Wrote (is : List Interval) (xs xs' : List Interval) (count : ℕ) : Type 0 where
  pub list_is : xs' ≡ put is xs
  pub count_is : count ≡ length is
