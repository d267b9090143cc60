-- the letters before the index are masked
use Rattle.std.proofs.Common.{◌≡◌, ◌++◌, take, drop, map}
use Rattle.masked_copy.specs.Copy.{shown}
use Rattle.masked_copy.proofs.mask_part.Given as goal

abbrev pub invariant-loop-b : goal.invariant-loop-b
invariant-loop-b l = l.part ≡ map (shown l.masking) (take l.b-index l.initial.part) ++ drop l.b-index l.initial.part
