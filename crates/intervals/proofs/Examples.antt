-- The paper's worked examples of merging and saving, the first of them with marks too.
use Rattle.std.proofs.Common.{◌≡◌, refl, true, false, [], ◌∷◌}
use Rattle.intervals.specs.Interval.{interval}
use Rattle.intervals.specs.Save.{staying, save}
use Rattle.intervals.specs.Merge.{insert, interleave, nonempty, join, merge, marked, insert_marked, interleave_marked, nonempty_marked, join_marked, merge_marked}

touching_joined : merge (interval 0 5 ∷ interval 9 12 ∷ []) (interval 5 7 ∷ []) ≡ interval 0 7 ∷ interval 9 12 ∷ []
unfolding merge interleave insert join nonempty
touching_joined = refl

touching_marked : merge_marked (interval 0 5 ∷ interval 9 12 ∷ []) (interval 5 7 ∷ []) ≡ marked (interval 0 7) true true ∷ marked (interval 9 12) true false ∷ []
unfolding merge_marked interleave_marked insert_marked join_marked nonempty_marked
touching_marked = refl

saved_over_last : save (interval 0 2 ∷ interval 4 6 ∷ []) 3 8 ≡ interval 0 2 ∷ interval 3 8 ∷ []
unfolding save staying
saved_over_last = refl

saved_over_both : save (interval 0 2 ∷ interval 4 6 ∷ []) 2 8 ≡ interval 0 8 ∷ []
unfolding save staying
saved_over_both = refl
