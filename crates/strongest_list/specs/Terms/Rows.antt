-- Terms of contracts: the stretches of an end, offered one after another, by the orders of the places of a row.
use Rattle.std.specs.Prelude.{◌≡◌, ℕ, zero, suc, ◌+◌, ◌-◌, ◌*◌, ◌≤◌, ◌<◌, min, max, Bool, ◌&&◌, ◌||◌, cond, List, ltb, eqb, length, get_or, take, drop, Option, None, Some}
use Rattle.strongest_list.specs.declared.Request.{Request}
use Rattle.strongest_list.specs.declared.search.Candidate.{Candidate}
use Rattle.strongest_list.specs.declared.linked.LinkedPlace.{LinkedPlace}
use Rattle.strongest_list.specs.declared.rows.Row.{Row}
use Rattle.strongest_list.specs.declared.rows.Read.{Read}
use Rattle.strongest_list.specs.Terms.Best.{score_of_codes, Picks}
use Rattle.strongest_list.specs.Terms.Blocks.{order_at, gains}
use Rattle.strongest_list.specs.Terms.Tiles.{EndsIn}

-- A stretch with this score and so many places would be better than the best so far.
abbrev pub reaches : ℕ → Option Candidate → ℕ → ℕ → Bool
reaches floor None score size = ltb floor score
reaches floor (Some c) score size = ltb (c.gain - c.loss) score || (eqb (c.gain - c.loss) score && ltb c.size size)

abbrev pub offer : ℕ → Option Candidate → Candidate → Option Candidate
offer floor b c = cond (reaches floor b (c.gain - c.loss) c.size) (Some c) b

-- What l places may lose.
abbrev pub loss_of : Request → ℕ → ℕ
loss_of q l = l * q.scoring.threshold + get_or q.scoring.f.now l 0

abbrev pub gained : Request → List LinkedPlace → ℕ → ℕ → ℕ
gained q ps count l = gains q.scoring.ln.now (order_at ps) (count - l) l

-- The stretch of the last l of `count` places, the first of which is place `first` of the contig.
abbrev pub found : Request → List LinkedPlace → ℕ → ℕ → ℕ → Candidate
found q ps first count l = record { first = first + (count - l); size = l; gain = gained q ps count l; loss = loss_of q l }

-- Those of l + 1 to l + m places are offered.
unfoldable pub offers : Request → List LinkedPlace → ℕ → ℕ → Option Candidate → ℕ → ℕ → Option Candidate
offers q ps first count b l zero = b
offers q ps first count b l (suc m) = offer q.floor (offers q ps first count b l m) (found q ps first count (l + suc m))

-- None of them scores more.
pub record Capped (q : Request) (ps : List LinkedPlace) (count ceiling l m : ℕ) : Type 0 where
  pub at : (i : ℕ) → l < i → i ≤ l + m → gained q ps count i ≤ ceiling + loss_of q i

-- How many places a stretch of the row may have that ends with the last of `count`.
abbrev pub steps_in_row : Row → ℕ → ℕ → ℕ
steps_in_row row w count = min w (count - row.skipped)

abbrev pub low_in_row : Row → ℕ → ℕ → ℕ
low_in_row row w count = count - steps_in_row row w count

-- The letters of a row lie in the buffer from letter `first` on, and none is barred. It reaches back as far as a stretch may that ends after the first `before` of them.
pub record RowOf (q : Request) (cs : List ℕ) (row : Row) (letters : List ℕ) : Type 0 where
  pub inside : row.first + length letters ≤ length cs
  pub letters_are : letters ≡ take (length letters) (drop row.first cs)
  pub before_in : row.before ≤ length letters
  pub free : (x : ℕ) → row.first ≤ x → x < row.first + length letters → get_or cs x 5 < 5
  pub at_start : row.first ≡ 0 → row.skipped ≡ 0
  pub later : 0 < row.first → row.skipped + 1 ≡ q.kmer
  pub edge : 0 < row.first → row.before < q.window_size + q.kmer → 5 ≤ get_or cs (row.first - 1) 5

-- Of the ends from `lo` on, those of the row join.
pub record Searches (q : Request) (row : Row) (letters : List ℕ) (best result : Option Candidate) : Type 0 where
  pub at : (cs : List ℕ) (lo : ℕ) → RowOf q cs row letters → lo ≤ row.first + row.before
      → Picks (score_of_codes q cs) (EndsIn q cs lo (row.first + row.before)) best
      → Picks (score_of_codes q cs) (EndsIn q cs lo (row.first + length letters)) result

abbrev pub read_next : Request → Read → ℕ → ℕ → ℕ → ℕ → ℕ → Read
read_next q r first size after back value =
    let gain : ℕ = r.gain + value in
    let c : Candidate = record { first = first; size = size; gain = after + gain; loss = loss_of q size } in
    record {
      best = offer q.floor r.best c;
      ceiling = max r.ceiling (c.gain - c.loss);
      gain = gain;
      top = max r.top (gain + (63 - back) * q.scoring.threshold);
    }
