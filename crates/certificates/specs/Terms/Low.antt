-- Terms of contracts: starts that are low. Where a search has found nothing, most starts of the window score far below 0, and a few letters later they still do: what each newer place adds to their scores is at most what it adds to the second sum.
-- An exact score is gain - loss, naturals in units of 2^-1074.
use Rattle.std.specs.Prelude.{◌≡◌, true, List, reverse, ℕ, ◌+◌, ◌-◌, ◌≤◌, ◌<◌, Option, Some, None, IfSome, cond, length, take, drop, ltb, Float}
use Rattle.floats.specs.Binary64.{zero64}
use Rattle.letters.specs.Place.{Place}
use Rattle.certificates.specs.declared.LowStarts.{LowStarts}
use Rattle.certificates.specs.declared.low.NearRead.{NearRead}
use Rattle.certificates.specs.declared.low.LowRead.{LowRead}
use Rattle.scans.specs.declared.backward.BackwardState.{BackwardState}
use Rattle.scans.specs.Setup.{Setup, kmers}
use Rattle.scans.specs.Counts.{raise, cleared}
use Rattle.scans.specs.Scans.{value, second_value, none, dust_backward}
use Rattle.scans.specs.Judged.{sum_over_of}
use Rattle.scans.specs.Terms.Counted.{Counted}
use Rattle.scans.specs.Terms.Shape.{Usual}
use Rattle.scans.specs.Terms.Units.{gain, loss}
use Rattle.search.specs.Terms.Certified.{KeptNumber}
use Rattle.certificates.specs.Terms.Made.{AtLeast}

-- The starts of this many newest places are judged anew at each search.
abbrev pub near_starts : ℕ
near_starts = 32

-- The starts of up to `reach` places are low, if more than the near ones are read.
abbrev pub low_starts_to : ℕ → Float → Option LowStarts
low_starts_to reach score = cond (ltb near_starts reach) (Some (record { reach = reach; score = score })) None

-- Of the window q: each start of more than these and at most `reach` places scores `score` or less, and so does the second sum over `reach` places, which the newest of them add to the places before.
-- The place at index a is the l-th from the newest where a + l is the window's length.
pub record LowBounds (S : Setup) (q : List Place) (c : LowStarts) : Type 0 where
  pub usual : Usual S
  pub kept : KeptNumber 0 c.score
  pub reaches : near_starts < c.reach
  pub low : (a l : ℕ) → a + l ≡ length q → near_starts < l → l ≤ c.reach → AtLeast c.score (gain S (drop a q)) (loss S l)
  pub ends : (a : ℕ) → a + c.reach ≡ length q → AtLeast c.score (gain S q) (gain S (take a q) + loss S c.reach)

-- ---- Both sums of a backward scan over the l newest places of the window q.
unfoldable pub newest_sum : Setup → List Place → ℕ → Float
newest_sum S q l = sum_over_of (value S) S.score_threshold zero64 (cleared S) (take l (reverse q))

unfoldable pub newest_second : Setup → List Place → ℕ → Float
newest_second S q l = sum_over_of (λ (counts : List ℕ) (e : Place). second_value S q (raise counts e) e) S.score_threshold zero64 (cleared S) (take l (reverse q))

-- A scan has read them: its sums, and the counts.
pub record ReadsNewest (S : Setup) (q : List Place) (l : ℕ) (a : BackwardState) (counts : List ℕ) : Type 0 where
  pub inside : l ≤ length q
  pub sum : a.s ≡ newest_sum S q l
  pub second : a.sw ≡ newest_second S q l
  pub counted : Counted (kmers S) counts (drop (length q - l) q)

-- The counts are those of the places from r's oldest on: what is known of low starts, and whether nothing is found.
pub record ReadsLow (S : Setup) (q : List Place) (r : LowRead) (counts : List ℕ) : Type 0 where
  pub inside : r.at ≤ length q
  pub counted : Counted (kmers S) counts (drop r.at q)
  pub low : IfSome r.low (LowBounds S q)

pub record ReadsNear (S : Setup) (q : List Place) (r : NearRead) (counts : List ℕ) : Type 0 where
  pub inside : r.at ≤ length q
  pub counted : Counted (kmers S) counts (drop r.at q)
  pub told : r.told ≡ true → (dust_backward S q).find ≡ none
