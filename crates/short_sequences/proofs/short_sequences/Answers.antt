-- Refused, nothing is written; accepted, the tallies over the buffer's front.
use Rattle.std.proofs.Common.{◌+◌, ◌≤◌, length, sym, arith}
use Rattle.short_sequences.proofs.Refusals.{accepted}
use Rattle.short_sequences.proofs.Sequences.{few_sequences}
use Rattle.short_sequences.proofs.short_sequences.Goals as goal
use Rattle.short_sequences.proofs.short_sequences.Goals.{In_ok-check}

bounds : (c : In_ok-check) → (1 ≤ c.args.m) × (c.args.m ≤ 8) × (c.args.m + 1 ≤ length c.args.tallies.now)
bounds c = accepted _ _ (sym c.in_ok-check.ensures)

pub returns-clause-few : goal.returns-clause-few
returns-clause-few c = omega (arith, c.count_sequences-sequences.ensures, few_sequences c.args.m (bounds (goal.at.returns-clause-few c).In_ok-check).1)
