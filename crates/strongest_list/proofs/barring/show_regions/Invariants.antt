-- What is left to give their codes are the letters of the regions from the index on.
use Rattle.std.proofs.Common.{ℕ, ◌≡◌, ◌<◌, cond, drop, length, get_or}
use Rattle.letters.specs.Code.{codes}
use Rattle.intervals.specs.Interval.{covered}
use Rattle.strongest_list.proofs.barring.show_regions.Given as goal

abbrev pub invariant-loop-region : goal.invariant-loop-region
invariant-loop-region l =
    (x : ℕ) → x < length l.codes → cond (covered l.request.regions.now x) (get_or (codes l.request.sequence.now) x 4) 5
    ≡ cond (covered (drop l.region-index l.request.regions.now) x) (get_or (codes l.request.sequence.now) x 4) (get_or l.codes x 5)
