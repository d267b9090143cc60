-- The paper, 'Both strands': two lists joined, as `merge_intervals` does, with marks and without, and a list read backwards.
use Rattle.std.specs.Prelude.{ℕ, ◌-◌, max, ◌≡◌, Bool, true, false, cond, ◌||◌, List, [], ◌∷◌, ◌++◌, map, ltb, leb}
use Rattle.buffers.specs.Fill.{put}
use Rattle.intervals.specs.declared.Interval.{Interval}
use Rattle.intervals.specs.Interval.{interval, Wrote}
use Rattle.intervals.specs.declared.Marked.{Marked}

-- Two lists in one by their starts; of two equal starts the second list's goes first. `others` puts what follows i among a list.
unfoldable pub insert : Interval → (List Interval → List Interval) → List Interval → List Interval
insert i others [] = i ∷ others []
insert i others (j ∷ js) = cond (ltb i.start j.start) (i ∷ others (j ∷ js)) (j ∷ insert i others js)

unfoldable pub interleave : List Interval → List Interval → List Interval
interleave [] js = js
interleave (i ∷ is) js = insert i (interleave is) js

-- [s, e) if it has a letter, else no interval.
unfoldable pub nonempty : ℕ → ℕ → List Interval
nonempty s e = cond (ltb s e) (interval s e ∷ []) []

-- Overlapping and touching intervals of a list by starts joined; [s, e) is the one that grows.
unfoldable pub join : ℕ → ℕ → List Interval → List Interval
join s e [] = nonempty s e
join s e (i ∷ is) = cond (leb i.start e) (join s (max e i.end) is) (nonempty s e ++ join i.start i.end is)

unfoldable pub merge : List Interval → List Interval → List Interval
merge is js = join 0 0 (interleave is js)

-- ---- The request 'Which strand saw it' (L7): the same, each interval with two marks, whether one of the first list (forward) and one of the second list (reverse) joined into it.
abbrev pub marked : Interval → Bool → Bool → Marked
marked i forward reverse = record { start = i.start; end = i.end; forward = forward; reverse = reverse }

abbrev pub from_forward : Interval → Marked
from_forward i = marked i true false

abbrev pub from_reverse : Interval → Marked
from_reverse i = marked i false true

unfoldable pub insert_marked : Marked → (List Marked → List Marked) → List Marked → List Marked
insert_marked m others [] = m ∷ others []
insert_marked m others (p ∷ ps) = cond (ltb m.start p.start) (m ∷ others (p ∷ ps)) (p ∷ insert_marked m others ps)

unfoldable pub interleave_marked : List Marked → List Marked → List Marked
interleave_marked [] ps = ps
interleave_marked (m ∷ ms) ps = insert_marked m (interleave_marked ms) ps

unfoldable pub nonempty_marked : Marked → List Marked
nonempty_marked m = cond (ltb m.start m.end) (m ∷ []) []

-- A joined interval has the marks of all its parts.
abbrev pub grown : Marked → Marked → Marked
grown m p = record { start = m.start; end = max m.end p.end; forward = m.forward || p.forward; reverse = m.reverse || p.reverse }

unfoldable pub join_marked : Marked → List Marked → List Marked
join_marked m [] = nonempty_marked m
join_marked m (p ∷ ps) = cond (leb p.start m.end) (join_marked (grown m p) ps) (nonempty_marked m ++ join_marked p ps)

unfoldable pub merge_marked : List Interval → List Interval → List Marked
merge_marked is js = join_marked (marked (interval 0 0) false false) (interleave_marked (map from_forward is) (map from_reverse js))

-- The intervals without their marks, and the marks as bytes: 1 forward, 2 reverse, 3 both.
abbrev pub range : Marked → Interval
range m = interval m.start m.end

abbrev pub ranges : List Marked → List Interval
ranges ms = map range ms

abbrev pub byte_of : Bool → Bool → ℕ
byte_of f r = cond f (cond r 3 1) (cond r 2 0)

abbrev pub mark_of : Marked → ℕ
mark_of m = byte_of m.forward m.reverse

abbrev pub marks_of : List Marked → List ℕ
marks_of ms = map mark_of ms

-- The list and its marks were written to the fronts of two slices.
pub record WroteMarked (ms : List Marked) (xs xs' : List Interval) (ys ys' : List ℕ) (count : ℕ) : Type 0 where
  pub list : Wrote (ranges ms) xs xs' count
  pub marks_are : ys' ≡ put (marks_of ms) ys

-- ---- In n letters, read from the other end: the last interval first, each [s, e) as [n - e, n - s).
abbrev pub flip : ℕ → Interval → Interval
flip n i = interval (n - i.end) (n - i.start)

unfoldable pub backwards : ℕ → List Interval → List Interval
backwards n [] = []
backwards n (i ∷ is) = backwards n is ++ (flip n i ∷ [])

-- With marks: forward and reverse change places.
abbrev pub flip_marked : ℕ → Marked → Marked
flip_marked n m = marked (flip n (range m)) m.reverse m.forward

unfoldable pub backwards_marked : ℕ → List Marked → List Marked
backwards_marked n [] = []
backwards_marked n (m ∷ ms) = backwards_marked n ms ++ (flip_marked n m ∷ [])
