-- The paper, 'Step and scans': one letter of a run, exactly in the paper's order, the run over a strand, and the strand's list of intervals.
use Rattle.std.specs.Prelude.{ℕ, zero, suc, ◌+◌, List, [], ◌∷◌, ◌++◌, Bool, false, cond, ◌&&◌, ◌||◌, length, eqb, leb, ℤ, pos, negsuc, ◌-ℤ◌, Float}
use Rattle.std.specs.Int.Signed.{lt_z, le_z}
use Rattle.std.specs.Float.Ieee.{lt}
use Rattle.floats.specs.Arithmetic.{◌⊕◌, ◌⊖◌, ◌⊗◌}
use Rattle.floats.specs.Binary64.{zero64, number}
use Rattle.letters.specs.Place.{Place, ambiguous, plain, places}
use Rattle.intervals.specs.declared.Interval.{Interval}
use Rattle.intervals.specs.Save.{save}
use Rattle.scans.specs.Setup.{Setup, ln_at, f_at}
use Rattle.scans.specs.Counts.{count, raise, lower, cleared}
use Rattle.scans.specs.Scans.{Find, none, at, Outcome, extends, if_backward, dust_backward}

-- The state of a run. The window count of a k-mer is how often it stands in the window.
pub record Run : Type 0 where
  pub window : List Place  -- the queue, oldest first
  pub sum : Float
  pub counts : List ℕ  -- the scan counts
  pub start : ℤ
  pub end : ℤ
  pub last_q : ℤ
  pub saved : List Interval

-- start, end and last_q at -1, sum 0, no queue entry.
unfoldable pub begin : Setup → Run
begin S = record { window = []; sum = zero64; counts = cleared S; start = negsuc 0; end = negsuc 0; last_q = negsuc 0; saved = [] }

-- ---- With a full queue the oldest entry leaves.
-- If plain, the ln entry of the old count leaves the sum; an ambiguous one leaves the sum alone.
abbrev pub sum_without : Setup → List Place → Float → Place → Float
sum_without S q sum ambiguous = sum
sum_without S q sum (plain x) = sum ⊖ ln_at S (count x q)

-- Then last_q = 0 lowers that k-mer's scan count if plain and above 0; last_q > 0 falls by one.
abbrev pub counts_without : ℤ → List ℕ → Place → List ℕ
counts_without (pos zero) counts e = lower counts e
counts_without (pos (suc j)) counts e = counts
counts_without (negsuc j) counts e = counts

abbrev pub last_q_without : ℤ → ℤ
last_q_without (pos zero) = pos zero
last_q_without (pos (suc j)) = pos j
last_q_without (negsuc j) = negsuc j

abbrev pub without_oldest : Setup → Run → List Place → Run
without_oldest S a [] = a
without_oldest S a (e ∷ q) =
    record {
      window = q;
      sum = sum_without S a.window a.sum e;
      counts = counts_without a.last_q a.counts e;
      start = a.start;
      end = a.end;
      last_q = last_q_without a.last_q;
      saved = a.saved;
    }

unfoldable pub leave : Setup → Run → Run
leave S a = cond (leb S.window_size (length a.window)) (without_oldest S a a.window) a

-- ---- The new entry joins. A plain one raises its count c and adds ln entry c.
abbrev pub sum_with : Setup → List Place → Float → Place → Float
sum_with S q sum ambiguous = sum
sum_with S q sum (plain x) = sum ⊕ ln_at S (count x q)

unfoldable pub join : Setup → Run → Place → Run
join S a e =
    let q : List Place = a.window ++ e ∷ [] in
    record { window = q; sum = sum_with S q a.sum e; counts = a.counts; start = a.start; end = a.end; last_q = a.last_q; saved = a.saved }

-- ---- Extend is tried if i = end, window score > 0, and last_q = 0 or i - start >= len.
-- sum - f[len] - len times T
unfoldable pub window_score : Setup → Run → Float
window_score S a =
    let len : ℕ = length a.window in
    a.sum ⊖ f_at S len ⊖ number len ⊗ S.score_threshold

abbrev pub is_at : ℤ → ℕ → Bool
is_at (pos e) i = eqb i e
is_at (negsuc e) i = false

unfoldable pub extend_tried : Setup → ℕ → Run → Bool
extend_tried S i a =
    is_at a.end i && (lt zero64 (window_score S a) && (is_at a.last_q 0 || le_z (pos (length a.window)) (pos i -ℤ a.start)))

-- When it isn't tried or fails, the back check; yes leads to the backward scan.
unfoldable pub search : Setup → ℕ → Run → ℕ → Outcome
search S i a x =
    cond (extend_tried S i a && extends S a.counts (length a.window) x) (record { find = at 0; counts = raise a.counts (plain x) })
    (cond (if_backward S a.window) (dust_backward S a.window) (record { find = none; counts = a.counts }))

-- ---- A find j gives st2 = i - (len-1-j) - (k-1), a signed number that can be below zero.
abbrev pub st2 : ℕ → ℕ → ℕ → ℕ → ℤ
st2 k i len j = pos i -ℤ (pos len -ℤ pos 1 -ℤ pos j) -ℤ (pos k -ℤ pos 1)

-- A number below zero is raised to 0.
abbrev pub whole : ℤ → ℕ
whole (pos e) = e
whole (negsuc e) = 0

-- The find's first letter s (L6): st2, raised to 0 before it is compared with end.
abbrev pub first_letter : ℕ → ℕ → ℕ → ℕ → ℤ
first_letter k i len j = pos (whole (st2 k i len j))

-- If s < end: start becomes s if s < start. Otherwise start = s.
abbrev pub start_after : ℤ → ℤ → ℤ → ℤ
start_after start end s = cond (lt_z s end) (cond (lt_z s start) s start) s

-- The interval is saved; start is -1 only while there is none.
abbrev pub save_from : List Interval → ℤ → ℤ → List Interval
save_from saved (pos s) end = save saved s (whole end)
save_from saved (negsuc s) end = saved

-- Unless s < end, the old interval is saved.
abbrev pub saved_after : List Interval → ℤ → ℤ → ℤ → List Interval
saved_after saved start end s = cond (lt_z s end) saved (save_from saved start end)

-- Then end = i+1, last_q = j.
unfoldable pub found_by : Setup → ℕ → Run → List ℕ → Find → Run
found_by S i a counts none = record { window = a.window; sum = a.sum; counts = counts; start = a.start; end = a.end; last_q = a.last_q; saved = a.saved }
found_by S i a counts (at j) =
    let s : ℤ = first_letter S.kmer i (length a.window) j in
    record {
      window = a.window;
      sum = a.sum;
      counts = counts;
      start = start_after a.start a.end s;
      end = pos (i + 1);
      last_q = pos j;
      saved = saved_after a.saved a.start a.end s;
    }

unfoldable pub found : Setup → ℕ → Run → Outcome → Run
unfolding found_by
found S i a r = found_by S i a r.counts r.find

-- ---- Letter i: only a plain entry whose count is at least min_start_cnt is searched from.
unfoldable pub look : Setup → ℕ → Run → Place → Run
look S i a ambiguous = a
look S i a (plain x) = cond (leb S.min_start_cnt (count x a.window)) (found S i a (search S i a x)) a

unfoldable pub step : Setup → ℕ → Run → Place → Run
step S i a e = look S i (join S (leave S a) e) e

-- ---- The run over all letters, and at the end the last interval saved.
unfoldable pub run_from : Setup → ℕ → Run → List Place → Run
run_from S i a [] = a
run_from S i a (e ∷ es) = run_from S (i + 1) (step S i a e) es

unfoldable pub run : Setup → List Place → Run
run S ps = run_from S 0 (begin S) ps

unfoldable pub intervals_of_places : Setup → List Place → List Interval
intervals_of_places S ps =
    let a : Run = run S ps in
    save_from a.saved a.start a.end

-- The list of a strand of codes.
unfoldable pub intervals_of : Setup → List ℕ → List Interval
intervals_of S codes = intervals_of_places S (places S.kmer codes)
