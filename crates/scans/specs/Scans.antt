-- The paper, 'Step and scans': extend, the back check and the two scans, float operation by float operation.
-- The window `q` is the list of its places, the oldest first. A scan's counts are part of its answer, since an extension reads them.
use Rattle.std.specs.Prelude.{ℕ, zero, suc, ◌+◌, ◌-◌, min, max, List, [], ◌∷◌, ◌++◌, Bool, true, false, cond, not, ◌&&◌, ◌||◌, length, get_or, drop, eqb, ltb, leb, ℤ, pos, negsuc, Float}
use Rattle.std.specs.Float.{nan, binary64}
use Rattle.std.specs.Float.Ieee.{neg, le, lt, of_bits}
use Rattle.floats.specs.Arithmetic.{◌⊕◌, ◌⊖◌}
use Rattle.floats.specs.Binary64.{zero64, slack, near_zero}
use Rattle.letters.specs.Place.{Place, ambiguous, plain}
use Rattle.scans.specs.Setup.{Setup, ln_at, f_at}
use Rattle.scans.specs.Counts.{count, raise, cleared}

-- A find is an index of the window.
pub data Find : Type 0 where
  none : Find
  at : ℕ → Find

pub record Outcome : Type 0 where
  pub find : Find
  pub counts : List ℕ

-- ---- Extend: `len` entries stand in the window, the newest of them plain with the k-mer x.
-- It succeeds if scan count + 1 <= w and ln[scan count + 1] - (f[len] - f[len-1]) is not below T; it raises the scan count and gives 0.
unfoldable pub extends : Setup → List ℕ → ℕ → ℕ → Bool
extends S counts len x =
    let c : ℕ = get_or counts x 0 + 1 in
    leb c S.window_size && not (lt (ln_at S c ⊖ (f_at S len ⊖ f_at S (len - 1))) S.score_threshold)

-- ---- The back check: it reads at most max_test newest entries, adding ln[window count] (0 if ambiguous) - T; below 0 it says no.
abbrev pub window_value : Setup → List Place → Place → Float
window_value S q ambiguous = zero64
window_value S q (plain x) = ln_at S (count x q)

-- `m` entries are left to read, the next at index i - 1.
unfoldable pub if_backward_from : Setup → List Place → ℕ → ℕ → Float → Bool
if_backward_from S q zero i s = true
if_backward_from S q (suc m) i s =
    let s' : Float = s ⊕ (window_value S q (get_or q (i - 1) ambiguous) ⊖ S.score_threshold) in
    let later : Bool = if_backward_from S q m (i - 1) s' in
    cond (lt s' zero64) false later

-- A negative max_test reads the whole queue.
abbrev pub max_steps : ℤ → ℕ → ℕ
max_steps (pos m) len = min m len
max_steps (negsuc m) len = len

unfoldable pub if_backward : Setup → List Place → Bool
if_backward S q = if_backward_from S q (max_steps S.max_test (length q)) (length q) zero64

-- ---- The forward scan.
-- What a place adds: the ln entry of its raised scan count, 0 if ambiguous.
abbrev pub value : Setup → List ℕ → Place → Float
value S counts ambiguous = zero64
value S counts (plain x) = ln_at S (get_or counts x 0 + 1)

-- The sum, the best score, and one past the index that had it (0: none).
pub record ForwardSums : Type 0 where
  pub s : Float
  pub best : Float
  pub found : ℕ

abbrev pub forward_start : ForwardSums
forward_start = record { s = zero64; best = zero64; found = 0 }

-- A score as high as the best is the new best: ties go to the later.
abbrev pub forward_judged : ForwardSums → Float → Float → ℕ → ForwardSums
forward_judged a s sl i =
    cond (le a.best sl) (record { s = s; best = sl; found = i + 1 }) (record { s = s; best = a.best; found = a.found })

pub record Forward : Type 0 where
  pub sums : ForwardSums
  pub counts : List ℕ

-- The next entry is the l-th of the scan and stands at index i.
unfoldable pub forward_from : Setup → Float → List Place → ℕ → ℕ → ForwardSums → List ℕ → Forward
forward_from S limit [] l i a counts = record { sums = a; counts = counts }
forward_from S limit (e ∷ es) l i a counts =
    let s : Float = a.s ⊕ (value S counts e ⊖ S.score_threshold) in
    let sl : Float = s ⊖ f_at S l in
    let a' : ForwardSums = forward_judged a s sl i in
    let counts' : List ℕ = raise counts e in
    let later : Forward = forward_from S limit es (l + 1) (i + 1) a' counts' in
    cond (lt limit sl) (record { sums = a'; counts = counts' }) later

-- From index j on; it stops after a score above its candidate's plus 1e-6.
unfoldable pub dust_forward : Setup → List Place → ℕ → Float → Forward
dust_forward S q j max_back = forward_from S (max_back ⊕ slack) (drop j q) 1 j forward_start (cleared S)

-- ---- The backward scan.
pub record Candidate : Type 0 where
  pub place : ℕ
  pub score : Float

abbrev pub candidate : ℕ → Float → Candidate
candidate i x = record { place = i; score = x }

-- What a place adds to the second sum: ln[window count - scan count + 1], the scan count being the raised one; 0 if ambiguous.
abbrev pub second_value : Setup → List Place → List ℕ → Place → Float
second_value S q raised ambiguous = zero64
second_value S q raised (plain x) = ln_at S (count x q - get_or raised x 0 + 1)

-- The two sums, the score before, the best score, and one past its index (0: none).
pub record BackwardSums : Type 0 where
  pub s : Float
  pub sw : Float
  pub previous : Float
  pub best : Float
  pub found : ℕ

-- The score before the first is -1.0.
abbrev pub backward_start : BackwardSums
backward_start = record { s = zero64; sw = zero64; previous = neg (of_bits binary64 0x3ff0_0000_0000_0000); best = zero64; found = 0 }

-- The score falls from a peak above 0 and within 1e-9 of the best, which is the best before this place is judged.
abbrev pub is_noted : BackwardSums → Float → Bool
is_noted a sl = lt sl a.previous && (lt zero64 a.previous && near_zero (a.previous ⊖ a.best))

-- The scan comes from the newer side: the peak of a fall at index i stands at i + 1, and that is noted, with the best score so far.
abbrev pub noted : BackwardSums → Float → ℕ → List Candidate → List Candidate
noted a sl i cs = cond (is_noted a sl) (cs ++ candidate (i + 1) a.best ∷ []) cs

-- Once there is a best place, best less score is above the drop limit, xdrop times T (none: w times T).
abbrev pub is_dropped : Setup → BackwardSums → Float → Bool
is_dropped S a sl = not (le a.best sl) && (not (eqb a.found 0) && lt S.drop_limit (a.best ⊖ sl))

-- An equal score is the new best.
abbrev pub backward_judged : BackwardSums → Float → Float → Float → ℕ → BackwardSums
backward_judged a s sw sl i =
    cond (le a.best sl) (record { s = s; sw = sw; previous = sl; best = sl; found = i + 1 }) (record { s = s; sw = sw; previous = sl; best = a.best; found = a.found })

-- The best score, one past its index (0: none), the scan counts, and the candidates in the order noted.
pub record Backward : Type 0 where
  pub best : Float
  pub found : ℕ
  pub counts : List ℕ
  pub candidates : List Candidate

-- With i entries left, the next is the l-th of the scan and stands at index i - 1.
unfoldable pub backward_from : Setup → List Place → ℕ → ℕ → BackwardSums → List ℕ → List Candidate → Backward
backward_from S q zero l a counts cs = record { best = a.best; found = a.found; counts = counts; candidates = cs }
backward_from S q (suc i) l a counts cs =
    let e : Place = get_or q i ambiguous in
    let counts' : List ℕ = raise counts e in
    let s : Float = a.s ⊕ (value S counts e ⊖ S.score_threshold) in
    let sl : Float = s ⊖ f_at S l in
    let sw : Float = a.sw ⊕ (second_value S q counts' e ⊖ S.score_threshold) in
    let a' : BackwardSums = backward_judged a s sw sl i in
    let cs' : List Candidate = noted a sl i cs in
    let later : Backward = backward_from S q i (l + 1) a' counts' cs' in
    cond (lt (sw ⊖ f_at S l) zero64) (record { best = a.best; found = a.found; counts = counts'; candidates = cs })
    (cond (is_dropped S a sl) (record { best = a'.best; found = a'.found; counts = counts'; candidates = cs' }) later)

-- What stands past the end of a list.
abbrev pub no_candidate : Candidate
no_candidate = candidate 0 nan

-- The best place joins the candidates if it is older than all noted, that is, older than the last.
abbrev pub with_best : Float → ℕ → List Candidate → List Candidate
with_best best found cs =
    cond (eqb (length cs) 0 || ltb found ((get_or cs (length cs - 1) no_candidate).place + 1)) (cs ++ candidate (found - 1) best ∷ []) cs

-- ---- Candidates are tried oldest first, which is the last noted first; i of them are left.
-- `furthest` is one past the furthest forward best so far: an older candidate is skipped.
unfoldable pub try_from : Setup → List Place → List Candidate → ℕ → ℕ → List ℕ → Outcome
try_from S q cs zero furthest counts = record { find = none; counts = counts }
try_from S q cs (suc i) furthest counts =
    let c : Candidate = get_or cs i no_candidate in
    let r : Forward = dust_forward S q c.place c.score in
    let skipped : Outcome = try_from S q cs i furthest counts in
    let later : Outcome = try_from S q cs i (max furthest r.sums.found) r.counts in
    cond (ltb (c.place + 1) furthest) skipped
    (cond (eqb r.sums.found (length q)) (record { find = at c.place; counts = r.counts })
    (cond S.approx (record { find = none; counts = r.counts }) later))

unfoldable pub tried : Setup → List Place → Backward → Outcome
tried S q b =
    let cs : List Candidate = with_best b.best b.found b.candidates in
    cond (eqb b.found 0) (record { find = none; counts = b.counts }) (try_from S q cs (length cs) 0 b.counts)

unfoldable pub dust_backward : Setup → List Place → Outcome
dust_backward S q = tried S q (backward_from S q (length q) 1 backward_start (cleared S) [])
