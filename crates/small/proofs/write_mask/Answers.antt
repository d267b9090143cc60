use Rattle.std.proofs.Common.{◌≡◌, sym, length}
use Rattle.small.specs.Profile.{refusal}
use Rattle.small.proofs.Profile.{asked}
use Rattle.small.proofs.Repeating.{none_written}
use Rattle.small.proofs.Runs.{bytes_room}
use Rattle.small.proofs.write_mask.Goals as goal
use Rattle.small.proofs.write_mask.Goals.{In_ok-check}

passed : (c : In_ok-check) → let A = c.args in refusal A.options A.sequence.now (length A.out.now) ≡ 0
passed c = sym c.in_ok-check.ensures

pub is_quiet-requires : goal.is_quiet-requires
is_quiet-requires c = asked _ _ _ (passed (goal.at.is_quiet-requires c).In_ok-check)

pub returns-then-is_quiet-clause-bytes : goal.returns-then-is_quiet-clause-bytes
returns-then-is_quiet-clause-bytes c = (none_written _ _ (c.is_quiet.ensures c.if-is_quiet.true)).1

pub mask_letters-count-requires-clause-asked : goal.mask_letters-count-requires-clause-asked
mask_letters-count-requires-clause-asked c = asked _ _ _ (passed (goal.at.mask_letters-count-requires-clause-asked c).In_ok-check)

pub write_list-requires : goal.write_list-requires
write_list-requires c = bytes_room c.mask_letters-count.ensures _ (passed (goal.at.write_list-requires c).In_ok-check)
