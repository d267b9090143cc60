-- Terms of contracts: where a sweep over both lists stands, and the next piece of letters, over which neither list changes.
use Rattle.std.specs.Prelude.{ℕ, ◌+◌, ◌≤◌, min, Bool, true, false, cond, List, [], ◌∷◌, ltb, leb, length, drop}
use Rattle.intervals.specs.declared.Interval.{Interval}
use Rattle.intervals.specs.Interval.{Canonical}
use Rattle.join.specs.declared.Side.{Side}
use Rattle.join.specs.declared.Sweep.{Sweep}
use Rattle.join.specs.declared.Piece.{Piece}

abbrev pub side : Bool → ℕ → Side
side covers until = record { covers = covers; until = until }

-- How a list of n letters goes on from letter x: whether it covers x, and up to where that stays so. Its intervals that end past x are given.
unfoldable pub side_of : ℕ → List Interval → ℕ → Side
side_of n [] x = side false n
side_of n (i ∷ is) x = cond (ltb x i.start) (side false i.start) (side true i.end)

-- Whether the first of the intervals ends at letter x or before it: 1 or 0.
unfoldable pub ended_first : List Interval → ℕ → ℕ
ended_first [] x = 0
ended_first (i ∷ is) x = cond (leb i.end x) 1 0

abbrev pub sweep : ℕ → ℕ → ℕ → Sweep
sweep x i j = record { at = x; ours = i; theirs = j }

-- The sweep at letter x, where i of ours and j of theirs have ended.
unfoldable pub piece_at : ℕ → List Interval → List Interval → Sweep → Piece
piece_at n ours theirs s =
    let is : List Interval = drop s.ours ours in
    let js : List Interval = drop s.theirs theirs in
    let o : Side = side_of n is s.at in
    let t : Side = side_of n js s.at in
    let end : ℕ = min o.until t.until in
    record { ours = o.covers; theirs = t.covers; next = sweep end (s.ours + ended_first is end) (s.theirs + ended_first js end) }

-- What `join_lists` asks of its lists and slices.
pub record Ready (n : ℕ) (ours : List Interval) (ms : List ℕ) (theirs : List Interval) (list marks : ℕ) : Type 0 where
  pub ours_usual : Canonical n 1 ours
  pub theirs_usual : Canonical n 1 theirs
  pub all_marked : length ours ≤ length ms
  pub room : length ours + length theirs ≤ list
  pub marks_room : length ours + length theirs ≤ marks
