-- What is left to look at are the regions from the index on.
use Rattle.std.proofs.Common.{◌≡◌, drop}
use Rattle.ranking.specs.Ranking.{region_at}
use Rattle.ranking.proofs.lines.region_at.Given as goal

abbrev pub invariant-loop-region : goal.invariant-loop-region
invariant-loop-region l = region_at l.regions l.x ≡ region_at (drop l.region-index l.regions) l.x
