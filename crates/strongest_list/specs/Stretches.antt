-- The request 'The strongest stretches of a contig': the list of the strongest stretches inside some regions,
-- none sharing a letter with another or touching it, in the order found. T, the tables and the floor are whole numbers, in units of 2^-32.
use Rattle.std.specs.Prelude.{ℕ, zero, suc, ◌+◌, ◌-◌, min, Bool, true, ◌&&◌, ◌||◌, cond, List, [], ◌∷◌, ◌++◌, length, ltb, eqb, Option, None, Some, ℤ, pos}
use Rattle.std.specs.Int.Signed.{lt_z, le_z}
use Rattle.letters.specs.Code.{codes}
use Rattle.letters.specs.Place.{places}
use Rattle.scans.specs.Score.{stretch}
use Rattle.intervals.specs.declared.Interval.{Interval}
use Rattle.intervals.specs.Interval.{interval, covered}
use Rattle.strongest.specs.Strongest.{score_of}

-- What is asked, beside N.
pub record Asked : Type 0 where
  pub sequence : List ℕ
  pub kmer : ℕ  -- k
  pub window_size : ℕ  -- w
  pub threshold : ℕ  -- T
  pub ln : List ℕ
  pub f : List ℕ
  pub regions : List Interval
  pub floor : ℕ

-- ---- A stretch: its first place, and how many places it has; its letters; its exact score over the codes of a strand.
pub record Stretch : Type 0 where
  pub first : ℕ
  pub size : ℕ

-- The l places up to place b.
abbrev pub ending : ℕ → ℕ → Stretch
ending b l = record { first = b + 1 - l; size = l }

abbrev pub letters : ℕ → Stretch → Interval
letters k s = interval (s.first + 1 - k) (s.first + s.size)

unfoldable pub score_in : ℕ → ℕ → List ℕ → List ℕ → List ℕ → Stretch → ℤ
score_in k t ln f cs s = score_of k t ln f (stretch (places k cs) s.first s.size)

abbrev pub score : Asked → Stretch → ℤ
score A s = score_in A.kmer A.threshold A.ln A.f (codes A.sequence) s

-- ---- Which stretches an entry may be.
-- Inside the regions: each of its letters lies in one. Here the m letters from a on.
unfoldable pub all_covered : List Interval → ℕ → ℕ → Bool
all_covered is a zero = true
all_covered is a (suc m) = covered is a && all_covered is (suc a) m

abbrev pub inside : List Interval → Interval → Bool
inside regions i = all_covered regions i.start (i.end - i.start)

-- A letter or more lies between: they share no letter and don't touch.
abbrev pub apart : Interval → Interval → Bool
apart i j = ltb i.end j.start || ltb j.end i.start

unfoldable pub apart_from : ℕ → Interval → List Stretch → Bool
apart_from k i [] = true
apart_from k i (s ∷ ss) = apart i (letters k s) && apart_from k i ss

-- Inside the regions, apart from the entries found so far, and above the floor.
abbrev pub allowed : Asked → List Stretch → Stretch → Bool
allowed A found s =
    inside A.regions (letters A.kmer s)
    && (apart_from A.kmer (letters A.kmer s) found && lt_z (pos A.floor) (score A s))

-- ---- The order: by score, then by places, the more the better, then by first place, the earlier the better.
abbrev pub beats : (Stretch → ℤ) → Stretch → Stretch → Bool
beats score s t =
    lt_z (score t) (score s)
    || (le_z (score t) (score s) && (ltb t.size s.size || (eqb t.size s.size && ltb s.first t.first)))

abbrev pub beats_best : (Stretch → ℤ) → Stretch → Option Stretch → Bool
beats_best score s None = true
beats_best score s (Some t) = beats score s t

-- The best of o and the allowed stretches of 1 to l places up to place b; of all allowed stretches of 1 to w places before place e.
unfoldable pub best_ending : (Stretch → ℤ) → (Stretch → Bool) → Option Stretch → ℕ → ℕ → Option Stretch
best_ending score allowed o b zero = o
best_ending score allowed o b (suc l) =
    let best : Option Stretch = best_ending score allowed o b l in
    let s : Stretch = ending b (suc l) in
    cond (allowed s && beats_best score s best) (Some s) best

unfoldable pub best_before : (Stretch → ℤ) → (Stretch → Bool) → ℕ → ℕ → Option Stretch
best_before score allowed w zero = None
best_before score allowed w (suc b) = best_ending score allowed (best_before score allowed w b) b (min w (suc b))

abbrev pub best : Asked → List Stretch → Option Stretch
best A found = best_before (score A) (allowed A found) A.window_size (length A.sequence)

-- ---- The list: with N entries more by one, the best of what the entries before leave, if there is one.
abbrev pub as_list : {X : Type 0} → Option X → List X
as_list None = []
as_list (Some s) = s ∷ []

unfoldable pub strongest : Asked → ℕ → List Stretch
strongest A zero = []
strongest A (suc n) = let found : List Stretch = strongest A n in found ++ as_list (best A found)
