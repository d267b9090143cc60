-- The paper, 'Records': the queue, a ring of w numbers with `len` entries, the oldest at `head`. The window in it, what the scans ask of it and how they answer.
use Rattle.std.specs.Prelude.{◌≡◌, ℕ, zero, suc, ◌+◌, ◌-◌, ◌/◌, ◌^◌, ◌<◌, ◌≤◌, Bool, cond, ◌⊎◌, List, ◌++◌, length, get_or, take, drop, ltb, Float, Option, None, Some}
use Rattle.std.specs.Float.{nan}
use Rattle.floats.specs.Binary64.{zero64}
use Rattle.letters.specs.Place.{Place, ambiguous, plain}
use Rattle.letters.specs.Terms.Entry.{decoded}
use Rattle.scans.specs.Setup.{Setup}
use Rattle.scans.specs.Counts.{count, raise}
use Rattle.scans.specs.Scans.{Find, none, at, extends}
use Rattle.scans.specs.declared.Params.{Params}

unfoldable pub queue : List ℕ → ℕ → ℕ → List ℕ
queue ring head len = take len (drop head ring ++ take head ring)

-- Where the j-th entry stands in a ring of w numbers.
abbrev pub ring_index : ℕ → ℕ → ℕ → ℕ
ring_index w head j = cond (ltb (head + j) w) (head + j) (head + j - w)

-- The same, but the ring's end where the entry stands past it.
abbrev pub ring_end : ℕ → ℕ → ℕ → ℕ
ring_end w head j = cond (ltb (head + j) w) (head + j) w

-- The index i of the ring is that of the j-th entry.
abbrev pub At : ℕ → ℕ → ℕ → ℕ → Type 0
At w head j i = (i < w) × ((i ≡ head + j) ⊎ (i + w ≡ head + j))

-- The places of the window, the oldest first.
abbrev pub window : List ℕ → ℕ → ℕ → List Place
window ring head len = decoded (queue ring head len)

-- A ring of w numbers holds a window, the window counts are its counts, and the ln table reaches to w. Not a field of a type: each letter writes to the queue and to the counts, which are lent.
pub record Windowed (p : Params) (ring : List ℕ) (head len : ℕ) (window_counts : List ℕ) (ln_length : ℕ) : Type 0 where
  pub ring_is : length ring ≡ p.window_size
  pub wide : 1 < p.window_size
  pub small : p.window_size ≤ 65535
  pub head_in : head < p.window_size
  pub len_in : len ≤ p.window_size
  pub ln_long : p.window_size < ln_length
  pub counts_long : length window_counts ≡ 4 ^ p.kmer
  pub below : (j : ℕ) → j < len → get_or (queue ring head len) j 0 / 2 < 4 ^ p.kmer
  pub counted : (x : ℕ) → get_or window_counts x 0 ≡ count x (window ring head len)

-- The newest entry.
abbrev pub newest_in : List ℕ → ℕ → ℕ → ℕ
newest_in ring head len = get_or (queue ring head len) (len - 1) 0

-- The newest entry has joined the window, and is still to join the scan counts, none of which is as high as the window is long.
pub record Joining (p : Params) (ring : List ℕ) (head len : ℕ) (window_counts : List ℕ) (ln_length : ℕ) (counts : List ℕ) : Type 0 where
  pub windowed : Windowed p ring head len window_counts ln_length
  pub some : 0 < len
  pub long : length counts ≡ 4 ^ p.kmer
  pub few : (x : ℕ) → get_or counts x 0 < len

-- The ln entry of a place's count, 0 if ambiguous.
abbrev pub counted_value : List Float → List ℕ → Place → Float
counted_value ln counts ambiguous = zero64
counted_value ln counts (plain x) = get_or ln (get_or counts x 0) nan

-- The raised count of a place's k-mer, none if the place is ambiguous.
abbrev pub raised_count : List ℕ → Place → Option ℕ
raised_count counts ambiguous = None
raised_count counts (plain x) = Some (get_or counts x 0 + 1)

-- A place is counted, and r is the ln entry of its raised count.
pub record CountsEntry (ln : List Float) (counts : List ℕ) (e : Place) (r : Float) (counts' : List ℕ) : Type 0 where
  pub counts_are : counts' ≡ raise counts e
  pub value_is : r ≡ counted_value ln counts' e

-- An extension raises the k-mer's scan count if it succeeds.
pub record Extends (S : Setup) (counts : List ℕ) (len x : ℕ) (r : Bool) (counts' : List ℕ) : Type 0 where
  pub answer : r ≡ extends S counts len x
  pub counts_are : counts' ≡ cond r (raise counts (plain x)) counts

-- The f table, the scan counts and the candidates are long enough.
pub record Roomy (p : Params) (f_length counts_length candidates_length : ℕ) : Type 0 where
  pub f_long : p.window_size < f_length
  pub counts_is : counts_length ≡ 4 ^ p.kmer
  pub candidates_long : p.window_size ≤ candidates_length

-- A number as a find: one past its index, 0 for none.
abbrev pub find_of : ℕ → Find
find_of zero = none
find_of (suc j) = at j
