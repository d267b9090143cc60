-- The request 'Strongest stretch at a letter': of the stretches up to a place b, the one that scores highest, among those that a search reads backward from b within a budget of steps,
-- and a bound on how much better those left unread can be. T and the tables are whole numbers, in units of 2^-32.
use Rattle.std.specs.Prelude.{ℕ, zero, suc, ◌+◌, ◌-◌, ◌*◌, ◌^◌, min, max, cond, List, eqb, get_or, ℤ, pos, negsuc, ◌+ℤ◌, ◌-ℤ◌}
use Rattle.std.specs.Int.Signed.{le_z}
use Rattle.letters.specs.Code.{codes}
use Rattle.letters.specs.Place.{Place, places}
use Rattle.scans.specs.Score.{score_without_f, score_by, stretch}

-- What is asked.
pub record Asked : Type 0 where
  pub sequence : List ℕ
  pub kmer : ℕ  -- k
  pub window_size : ℕ  -- w
  pub place : ℕ  -- b
  pub budget : ℕ
  pub threshold : ℕ  -- T
  pub ln : List ℕ
  pub f : List ℕ

-- ---- The places available are the last w up to b. Steps: the smaller of the budget and these; the others are left unread.
abbrev pub available : Asked → ℕ
available Q = min Q.window_size (Q.place + 1)

abbrev pub steps : Asked → ℕ
steps Q = min Q.budget (available Q)

abbrev pub unread : Asked → ℕ
unread Q = available Q - steps Q

-- ---- The stretch of the l places up to b, and its exact score.
abbrev pub up_to : Asked → ℕ → List Place
up_to Q l = stretch (places Q.kmer (codes Q.sequence)) (Q.place + 1 - l) l

abbrev pub entry : List ℕ → ℕ → ℤ
entry table i = pos (get_or table i 0)

abbrev pub without_f : ℕ → ℕ → List ℕ → List Place → ℤ
without_f k t ln q = score_without_f (entry ln) (pos t) (4 ^ k) q

abbrev pub score_of : ℕ → ℕ → List ℕ → List ℕ → List Place → ℤ
score_of k t ln f q = score_by (entry ln) (entry f) (pos t) (4 ^ k) q

unfoldable pub score_at : Asked → ℕ → ℤ
score_at Q l = score_of Q.kmer Q.threshold Q.ln Q.f (up_to Q l)

-- ---- The best of the stretches of 1 to l places, s being their scores; equal scores give the longer stretch.
unfoldable pub best_of : (ℕ → ℤ) → ℕ → ℕ
best_of s zero = 1
best_of s (suc l) =
    let best : ℕ = best_of s l in
    cond (le_z (s best) (s (suc l))) (suc l) best

abbrev pub best : Asked → ℕ
best Q = best_of (score_at Q) (steps Q)

abbrev pub start : Asked → ℕ
start Q = Q.place + 1 - best Q

abbrev pub best_score : Asked → ℤ
best_score Q = score_at Q (best Q)

-- ---- The gap: the amount by which the score of all places read, its f left out, plus r times the positive part of (largest ln entry 1..w minus T), exceeds the score of the best, or 0.
-- With r = 0 it is 0.
unfoldable pub largest : List ℕ → ℕ → ℕ
largest table zero = 0
largest table (suc w) = max (largest table w) (get_or table (suc w) 0)

abbrev pub excess : ℤ → ℕ
excess (pos d) = d
excess (negsuc d) = 0

unfoldable pub gap_over : Asked → ℤ → ℕ
gap_over Q score =
    let read : ℤ = without_f Q.kmer Q.threshold Q.ln (up_to Q (steps Q)) in
    let more : ℕ = unread Q * (largest Q.ln Q.window_size - Q.threshold) in
    cond (eqb (unread Q) 0) 0 (excess (read +ℤ pos more -ℤ score))

abbrev pub gap : Asked → ℕ
gap Q = gap_over Q (best_score Q)
