-- The scans of the paper, 'Step and scans', over the straight parts of the ring, which one after the other equal the scan over the window: the terms of their contracts, with the code's states as the definitions' records.
use Rattle.std.specs.Prelude.{◌≡◌, Bool, true, false, cond, not, ◌&&◌, ◌||◌, List, ◌++◌, ℕ, zero, suc, ◌+◌, ◌-◌, ◌/◌, ◌<◌, ◌≤◌, length, get_or, drop, eqb, ltb, Float}
use Rattle.std.specs.Float.{nan, inf}
use Rattle.std.specs.Float.Ieee.{lt, le}
use Rattle.floats.specs.Arithmetic.{◌⊕◌, ◌⊖◌}
use Rattle.floats.specs.Binary64.{zero64, tiny}
use Rattle.letters.specs.Place.{Place, ambiguous, plain}
use Rattle.letters.specs.Terms.Entry.{decoded}
use Rattle.scans.specs.declared.forward.ForwardState.{ForwardState}
use Rattle.scans.specs.declared.backward.BackwardState.{BackwardState}
use Rattle.scans.specs.Setup.{Setup, f_at, kmers}
use Rattle.scans.specs.Counts.{count, raise, cleared}
use Rattle.scans.specs.Terms.Counted.{Counted}
use Rattle.scans.specs.Scans.{ForwardSums, forward_start, Forward, forward_from, BackwardSums, backward_start, is_noted}
use Rattle.scans.specs.Terms.Window.{queue, counted_value}

-- A ring holds `len` entries, and each of their k-mers has a count.
pub record Queued (ring : List ℕ) (head len counts_length : ℕ) : Type 0 where
  pub head_in : head < length ring
  pub len_in : len ≤ length ring
  pub small : length ring ≤ 65535
  pub below : (j : ℕ) → j < len → get_or (queue ring head len) j 0 / 2 < counts_length

-- The tables are long enough for them too.
pub record Ringed (ring : List ℕ) (head len ln_length f_length counts_length : ℕ) : Type 0 where
  pub queued : Queued ring head len counts_length
  pub ln_long : length ring < ln_length
  pub f_long : length ring < f_length

-- The k-mer of each entry of a part has a count. Not a field of a type: a ring has parts of any length, and the counts are the caller's.
pub record Coded (part : List ℕ) (counts_length : ℕ) : Type 0 where
  pub below : (j : ℕ) → j < length part → get_or part j 0 / 2 < counts_length

-- The places of a part are walked: what the counts were to them and all places after them, they then are to those after them.
pub record Walked (P : List ℕ → List Place → Type 0) (es : List Place) (counts counts' : List ℕ) : Type 0 where
  pub left : (after : List Place) → P counts (es ++ after) → P counts' after

-- Each count is at most n.
pub record UpTo (n : ℕ) (counts : List ℕ) : Type 0 where
  pub at_most : (x : ℕ) → get_or counts x 0 ≤ n

-- ---- The forward scan.
-- The forward scan over all of the places: nothing is above its limit, so it is never stopped.
abbrev pub whole_forward : Setup → List Place → Forward
whole_forward S es = forward_from S (inf false) es 1 0 forward_start (cleared S)

abbrev pub forward_of : ForwardState → ForwardSums
forward_of a = record { s = a.s; best = a.best; found = a.found }

-- A scan that began at entry `start` goes over the places of a part, the first at entry `from`, from state a to state b, or has stopped at b.
pub record ForwardPart (S : Setup) (limit : Float) (start from : ℕ) (es : List Place) (a b : ForwardState) (counts counts' : List ℕ) : Type 0 where
  pub scanned : (after : List Place)
      → forward_from S limit (es ++ after) (from + 1 - start) from (forward_of a) counts
      ≡ cond b.done (record { sums = forward_of b; counts = counts' }) (forward_from S limit after (from + length es + 1 - start) (from + length es) (forward_of b) counts')
  pub few : b.done ≡ false → UpTo (from + length es) counts'

-- The whole forward scan is a; the code answers r.
pub record Finds (a : Forward) (r : ForwardState) (counts : List ℕ) : Type 0 where
  pub sums_are : forward_of r ≡ a.sums
  pub counts_are : counts ≡ a.counts

-- ---- The backward scan.
abbrev pub backward_of : BackwardState → BackwardSums
backward_of a = record { s = a.s; sw = a.sw; previous = a.previous; best = a.best; found = a.found }

abbrev pub with_sums : BackwardState → Float → Float → BackwardState
with_sums a s sw = record { s = s; sw = sw; previous = a.previous; best = a.best; found = a.found; low = a.low; paused = a.paused; done = a.done }

-- The ln entry of what a place's window count has left over its raised scan count, 0 if ambiguous.
abbrev pub left_value : List Float → List ℕ → List ℕ → Place → Float
left_value ln window_counts raised ambiguous = zero64
left_value ln window_counts raised (plain x) = get_or ln (get_or window_counts x 0 - get_or raised x 0 + 1) nan

-- A place is counted, and adds to both sums.
pub record AddsEntry (t : Float) (window_counts : List ℕ) (ln : List Float) (e : Place) (a b : BackwardState) (counts counts' : List ℕ) : Type 0 where
  pub counts_are : counts' ≡ raise counts e
  pub sums_are : b ≡ with_sums a (a.s ⊕ (counted_value ln counts' e ⊖ t)) (a.sw ⊕ (left_value ln window_counts counts' e ⊖ t))

-- The score sl of entry i is the new best, or is below the best.
abbrev pub with_best_at : BackwardState → Float → ℕ → BackwardState
with_best_at a sl i = record { s = a.s; sw = a.sw; previous = sl; best = sl; found = i + 1; low = a.low; paused = a.paused; done = a.done }

abbrev pub with_previous : BackwardState → Float → BackwardState
with_previous a sl = record { s = a.s; sw = a.sw; previous = sl; best = a.best; found = a.found; low = a.low; paused = a.paused; done = a.done }

-- The scan rests at entry i, where it paused or not, and has stopped or not.
abbrev pub rests_at : BackwardState → ℕ → Bool → Bool → BackwardState
rests_at a i paused done = record { s = a.s; sw = a.sw; previous = a.previous; best = a.best; found = a.found; low = i; paused = paused; done = done }

-- It begins.
pub record Fresh (low : ℕ) (a : BackwardState) : Type 0 where
  pub sums_are : backward_of a ≡ backward_start
  pub low_is : a.low ≡ low
  pub going : (a.paused ≡ false) × (a.done ≡ false)

-- Where a score below the best makes a scan pause: at the fall from a peak that is a candidate; a quick scan, which notes none, at a near tie.
abbrev pub pauses : Bool → BackwardSums → Float → Bool
pauses quick a sl = cond quick (lt (a.best ⊖ sl) tiny) (is_noted a sl)

-- Where it stops: too far below the best.
abbrev pub too_low : Float → BackwardSums → Float → Bool
too_low drop_limit a sl = not (eqb a.found 0) && lt drop_limit (a.best ⊖ sl)

-- Whether a scan that rests where it pauses has entries left to read.
abbrev pub goes_on_of : BackwardState → Bool
goes_on_of a = not a.paused && (not a.done && ltb 0 a.low)

-- Where a scan rests: its sums, the oldest entry read, whether it paused there, whether it has stopped, and the scan counts.
pub record Rest : Type 0 where
  pub sums : BackwardSums
  pub low : ℕ
  pub paused : Bool
  pub done : Bool
  pub counts : List ℕ

abbrev pub rest_of : BackwardState → List ℕ → Rest
rest_of a counts = record { sums = backward_of a; low = a.low; paused = a.paused; done = a.done; counts = counts }

-- The sums with one place more, which the counts have already.
abbrev pub sums_with : Setup → List ℕ → List ℕ → Place → BackwardSums → BackwardSums
sums_with S window_counts raised e a = record {
  s = a.s ⊕ (counted_value S.ln raised e ⊖ S.score_threshold);
  sw = a.sw ⊕ (left_value S.ln window_counts raised e ⊖ S.score_threshold);
  previous = a.previous;
  best = a.best;
  found = a.found;
}

abbrev pub raised_at : BackwardSums → Float → ℕ → BackwardSums
raised_at a sl i = record { s = a.s; sw = a.sw; previous = sl; best = sl; found = i + 1 }

abbrev pub fallen_to : BackwardSums → Float → BackwardSums
fallen_to a sl = record { s = a.s; sw = a.sw; previous = sl; best = a.best; found = a.found }

-- The scan over m places `es`, the last first, in a window of `len` whose entry `at` is the first of them, until it pauses or stops.
unfoldable pub rest_over : Setup → List ℕ → Bool → ℕ → List Place → ℕ → ℕ → BackwardSums → List ℕ → Rest
rest_over S window_counts quick len es at zero a counts = record { sums = a; low = at; paused = false; done = false; counts = counts }
rest_over S window_counts quick len es at (suc m) a counts =
    let e : Place = get_or es m ambiguous in
    let raised : List ℕ = raise counts e in
    let b : BackwardSums = sums_with S window_counts raised e a in
    let fl : Float = f_at S (len - (m + at)) in
    let sl : Float = b.s ⊖ fl in
    let pause : Bool = pauses quick b sl in
    let low : Bool = too_low S.drop_limit b sl in
    let higher : Rest = rest_over S window_counts quick len es at m (raised_at b sl (m + at)) raised in
    let later : Rest = rest_over S window_counts quick len es at m (fallen_to b sl) raised in
    cond (lt (b.sw ⊖ fl) zero64) (record { sums = b; low = m + at; paused = false; done = true; counts = raised })
    (cond (le b.best sl) higher
    (cond (pause || low) (record { sums = fallen_to b sl; low = m + at; paused = pause; done = low; counts = raised }) later))

-- Over the window's first i entries; and what a scan that rests leads to.
abbrev pub rest_from : Setup → List ℕ → Bool → List Place → ℕ → BackwardSums → List ℕ → Rest
rest_from S window_counts quick q i a counts = rest_over S window_counts quick (length q) q 0 i a counts

abbrev pub rest_after : Setup → List ℕ → Bool → List Place → Rest → Rest
rest_after S window_counts quick q r = cond (r.paused || r.done) r (rest_from S window_counts quick q r.low r.sums r.counts)

-- Window counts of a window of `len` places have room for the counts and the places of a part.
pub record Room (len : ℕ) (window_counts counts : List ℕ) (es : List Place) : Type 0 where
  pub at_most : (x : ℕ) → get_or window_counts x 0 ≤ len
  pub left : (x : ℕ) → get_or counts x 0 + count x es ≤ get_or window_counts x 0

-- A part whose entries are those before entry `low` of a window of `len`: the tables are long enough, and the counts have room for them.
pub record PartBefore (low len ln_length f_length : ℕ) (part window_counts counts : List ℕ) : Type 0 where
  pub some : 0 < length part
  pub inside : length part ≤ low
  pub low_in : low ≤ len
  pub small : len ≤ 65535
  pub ln_long : len < ln_length
  pub f_long : len < f_length
  pub coded : Coded part (length counts)
  pub counts_long : length window_counts ≡ length counts
  pub room : Room len window_counts counts (decoded part)

-- A scan that has no best place yet: its best is 0, and the score before is not above it.
pub record NoneBest (a : BackwardSums) : Type 0 where
  pub none : a.found ≡ 0
  pub is_zero : a.best ≡ zero64
  pub level : lt a.best a.previous ≡ false

-- A scan that rests: the counts are those of the entries from the oldest read on. The best place is one of them, without one the best is 0, and the score before is not above the best.
pub record Backs (m : ℕ) (q : List Place) (r : Rest) : Type 0 where
  pub low_in : r.low ≤ length q
  pub counted : Counted m r.counts (drop r.low q)
  pub found_in : r.sums.found ≤ length q
  pub best_read : 0 < r.sums.found → r.low < r.sums.found
  pub level : lt r.sums.best r.sums.previous ≡ false
  pub from_zero : r.sums.found ≡ 0 → r.sums.best ≡ zero64

-- A scan goes on from a over a part, or over the newest of its entries, and rests at b; the oldest are left unread.
pub record GoesOver (S : Setup) (window_counts : List ℕ) (quick : Bool) (len : ℕ) (part : List ℕ) (a b : Rest) : Type 0 where
  pub unread : ℕ
  pub some : unread < length part
  pub scanned : b ≡ rest_over S window_counts quick len (decoded (drop unread part)) (a.low - length (drop unread part)) (length (drop unread part)) a.sums a.counts

-- A scan goes on from a, and rests at b.
pub record GoesOn (S : Setup) (window_counts : List ℕ) (quick : Bool) (q : List Place) (a b : Rest) : Type 0 where
  pub scanned : rest_from S window_counts quick q a.low a.sums a.counts ≡ rest_after S window_counts quick q b
  pub less : b.low < a.low
  pub here : Backs (kmers S) q b
  pub kept : b.sums.found ≡ 0 → a.sums.found ≡ 0
  pub peaked : quick ≡ false → b.paused ≡ true → b.sums.found ≡ 0 → ⊥
