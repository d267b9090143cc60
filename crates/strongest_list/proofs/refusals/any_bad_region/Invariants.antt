-- What is left to test are the regions from the index on.
use Rattle.std.proofs.Common.{◌≡◌, drop}
use Rattle.strongest_list.specs.Checks.{any_bad_region}
use Rattle.strongest_list.proofs.refusals.any_bad_region.Given as goal

abbrev pub invariant-loop-region : goal.invariant-loop-region
invariant-loop-region l = any_bad_region l.n l.regions ≡ any_bad_region l.n (drop l.region-index l.regions)
