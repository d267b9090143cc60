-- Terms of contracts: the places of a strand cs read backward from its last letter, and what is read of them.
use Rattle.std.specs.Prelude.{ℕ, zero, suc, ◌+◌, ◌-◌, ◌*◌, ◌^◌, ◌≤◌, ◌<◌, min, ◌≡◌, cond, ◌||◌, List, [], ◌∷◌, leb, eqb, length, set, take, drop, ℤ, pos, ◌-ℤ◌}
use Rattle.buffers.specs.Free.{Free}
use Rattle.letters.specs.Code.{codes}
use Rattle.letters.specs.Place.{Place, ambiguous, plain, place_at}
use Rattle.scans.specs.Score.{ln_sums}
use Rattle.strongest.specs.declared.scores.Reading.{Reading}
use Rattle.strongest.specs.Strongest.{entry, score_of, best_of, largest}

-- Place i, counted back from the last.
abbrev pub back : ℕ → List ℕ → ℕ → Place
back k cs i = place_at k cs (length cs - 1 - i)

-- The last l places, the oldest first.
unfoldable pub back_to : ℕ → List ℕ → ℕ → List Place
back_to k cs zero = []
back_to k cs (suc l) = back k cs l ∷ back_to k cs l

-- The counts with that of the place's k-mer set to 0.
abbrev pub cleared_at : List ℕ → Place → List ℕ
cleared_at counts ambiguous = counts
cleared_at counts (plain x) = set counts x 0

abbrev pub nothing : Reading
nothing = record { gain = 0; best = record { size = 0; gain = 0; loss = 0 } }

-- A stretch of `size` places joins those read; it gains `value` more than the one before, and loses `loss`.
unfoldable pub judged : Reading → ℕ → ℕ → ℕ → Reading
judged r size value loss =
    let gain : ℕ = r.gain + value in
    cond (eqb size 1 || leb (r.best.gain + loss) (gain + r.best.loss))
    (record { gain = gain; best = record { size = size; gain = gain; loss = loss } })
    (record { gain = gain; best = r.best })

abbrev pub scores_back : ℕ → ℕ → List ℕ → List ℕ → List ℕ → ℕ → ℤ
scores_back k t ln f cs l = score_of k t ln f (back_to k cs l)

-- T and the entries 1..steps of both tables have their widths. Not a field of `Scoring`: a call says how many steps it makes.
pub record Narrow (t : ℕ) (ln f : List ℕ) (steps : ℕ) : Type 0 where
  pub ln_long : steps < length ln
  pub f_long : steps < length f
  pub t_small : t < 68719476736
  pub ln_small : largest ln steps < 68719476736
  pub f_small : largest f steps < 4503599627370496

-- The last l places were read.
pub record Reads (k t : ℕ) (ln f cs : List ℕ) (l : ℕ) (r : Reading) : Type 0 where
  pub gain : ln_sums (entry ln) (4 ^ k) (back_to k cs l) ≡ pos r.gain
  pub size : 0 < l → r.best.size ≡ best_of (scores_back k t ln f cs) l
  pub best : 0 < l → scores_back k t ln f cs r.best.size ≡ pos r.best.gain -ℤ pos r.best.loss
  pub gain_small : r.gain ≤ l * 68719476736
  pub best_small : r.best.gain ≤ l * 68719476736
  pub loss_small : r.best.loss < 9007199254740992

-- The codes of the letters before `end` that the last `steps` places need.
abbrev pub needed : ℕ → ℕ → ℕ → ℕ
needed k end steps = min (steps + k - 1) end

abbrev pub codes_read : List ℕ → ℕ → ℕ → ℕ → List ℕ
codes_read s k end steps = codes (take (needed k end steps) (drop (end - needed k end steps) s))

-- The last `steps` places before letter `end` were read; the buffers hold free content within the listed sizes.
pub record ReadsPlaces (s : List ℕ) (k end steps t : ℕ) (ln f : List ℕ) (r : Reading) (cs cs' counts counts' : List ℕ) : Type 0 where
  pub reads : Reads k t ln f (codes_read s k end steps) steps r
  pub codes : Free (length s) cs cs'
  pub scan_counts : Free (4 ^ k) counts counts'

abbrev pub gap_of : Reading → ℕ → ℕ → ℕ → ℕ → ℕ
gap_of r steps unread rise t = cond (eqb unread 0) 0 (r.gain + unread * rise + r.best.loss - (steps * t + r.best.gain))
