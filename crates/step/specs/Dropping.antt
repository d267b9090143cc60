-- The paper's own rule for finds that begin before the first letter, which the request 'Starts before the first letter' (L6) replaced: st2 stays below zero, and an interval that starts there is dropped.
-- For one theorem alone, `same_by_dropping`.
use Rattle.std.specs.Prelude.{ℕ, ◌+◌, List, [], ◌∷◌, Bool, true, cond, ◌&&◌, ◌||◌, leb, length, ℤ, pos}
use Rattle.std.specs.Int.Signed.{lt_z, le_z}
use Rattle.letters.specs.Place.{Place, ambiguous, plain, places}
use Rattle.intervals.specs.declared.Interval.{Interval}
use Rattle.scans.specs.Setup.{Setup}
use Rattle.scans.specs.Counts.{count}
use Rattle.scans.specs.Scans.{Find, none, at, Outcome}
use Rattle.step.specs.Step.{Run, begin, leave, join, search, st2, save_from, saved_after, found_by}

-- What a new entry leads to: a search if it is plain and its count at least min_start_cnt.
unfoldable pub look_by : Setup → ℕ → Run → Place → Outcome
look_by S i a ambiguous = record { find = none; counts = a.counts }
look_by S i a (plain x) = cond (leb S.min_start_cnt (count x a.window)) (search S i a x) (record { find = none; counts = a.counts })

-- If st2 < end: start becomes st2 if start < 0 or st2 < start. Otherwise start = st2.
abbrev pub start_dropping : ℤ → ℤ → ℤ → ℤ
start_dropping start end s = cond (lt_z s end) (cond (lt_z start (pos 0) || lt_z s start) s start) s

unfoldable pub found_dropping : Setup → ℕ → Run → List ℕ → Find → Run
found_dropping S i a counts none = found_by S i a counts none
found_dropping S i a counts (at j) =
    let s : ℤ = st2 S.kmer i (length a.window) j in
    record {
      window = a.window;
      sum = a.sum;
      counts = counts;
      start = start_dropping a.start a.end s;
      end = pos (i + 1);
      last_q = pos j;
      saved = saved_after a.saved a.start a.end s;
    }

unfoldable pub step_dropping : Setup → ℕ → Run → Place → Run
step_dropping S i a e =
    let b : Run = join S (leave S a) e in
    let r : Outcome = look_by S i b e in
    found_dropping S i b r.counts r.find

unfoldable pub run_dropping : Setup → ℕ → Run → List Place → Run
run_dropping S i a [] = a
run_dropping S i a (e ∷ es) = run_dropping S (i + 1) (step_dropping S i a e) es

unfoldable pub intervals_dropping : Setup → List ℕ → List Interval
intervals_dropping S codes =
    let a : Run = run_dropping S 0 (begin S) (places S.kmer codes) in
    save_from a.saved a.start a.end

-- ---- No find of that run begins below zero.
abbrev pub not_below : Setup → ℕ → Run → Find → Bool
not_below S i a none = true
not_below S i a (at j) = le_z (pos 0) (st2 S.kmer i (length a.window) j)

unfoldable pub none_below_from : Setup → ℕ → Run → List Place → Bool
none_below_from S i a [] = true
none_below_from S i a (e ∷ es) =
    let b : Run = join S (leave S a) e in
    not_below S i b (look_by S i b e).find && none_below_from S (i + 1) (step_dropping S i a e) es

unfoldable pub none_below : Setup → List ℕ → Bool
none_below S codes = none_below_from S 0 (begin S) (places S.kmer codes)
