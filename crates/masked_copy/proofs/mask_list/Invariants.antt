-- what is left to mask are the intervals from the index on
use Rattle.std.proofs.Common.{◌≡◌, drop}
use Rattle.masked_copy.specs.Copy.{copy_of}
use Rattle.masked_copy.proofs.mask_list.Given as goal

abbrev pub invariant-loop-interval : goal.invariant-loop-interval
invariant-loop-interval l =
    copy_of l.masking l.list l.initial.letters ≡ copy_of l.masking (drop l.interval-index l.list) l.letters
