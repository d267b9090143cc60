-- The paper, 'Step and scans': saving an interval to a list, as `save_interval` does to any list.
use Rattle.std.specs.Prelude.{ℕ, zero, suc, min, max, cond, List, [], ◌∷◌, ◌++◌, leb, length, take, drop, get_or}
use Rattle.intervals.specs.declared.Interval.{Interval}
use Rattle.intervals.specs.Interval.{interval}

-- How many of the first m intervals stay: from the last one back they go, up to the first whose end is below s.
unfoldable pub staying : List Interval → ℕ → ℕ → ℕ
staying is s zero = zero
staying is s (suc m) = cond (leb s (get_or is m (interval 0 0)).end) (staying is s m) (suc m)

-- The first of those that go takes [s, e) in; where none goes, [s, e) is put last.
abbrev pub absorb : List Interval → ℕ → ℕ → Interval
absorb [] s e = interval s e
absorb (i ∷ is) s e = interval (min s i.start) (max e i.end)

abbrev pub save_at : ℕ → List Interval → ℕ → ℕ → List Interval
save_at k is s e = take k is ++ (absorb (drop k is) s e ∷ [])

unfoldable pub save : List Interval → ℕ → ℕ → List Interval
save is s e = save_at (staying is s (length is)) is s e
