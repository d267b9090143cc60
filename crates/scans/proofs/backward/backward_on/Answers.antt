use Rattle.std.proofs.Common.{arith}
use Rattle.scans.proofs.Windows.{long}
use Rattle.scans.proofs.BackwardScan.{part_ready, part_goes_on}
use Rattle.scans.proofs.BackwardLow.{whole_over}
use Rattle.scans.proofs.backward.backward_on.Goals as goal

pub before-part-requires : goal.before-part-requires
before-part-requires c = (c.requires.low_nonzero.0, omega (arith, c.requires.backs.low_in, long c.requires.windowed))

pub backward_low-requires-clause-part_before : goal.backward_low-requires-clause-part_before
backward_low-requires-clause-part_before c = (part_ready c.args.setup.now c.args.ring.now c.requires.windowed c.args.state c.args.scan_counts.now c.requires.backs _ c.before-part.ensures c.requires.low_nonzero.1).0

pub backward_low-requires-clause-none_best : goal.backward_low-requires-clause-none_best
backward_low-requires-clause-none_best c = (part_ready c.args.setup.now c.args.ring.now c.requires.windowed c.args.state c.args.scan_counts.now c.requires.backs _ c.before-part.ensures c.requires.low_nonzero.1).1 c.if-state-eq0.true

pub returns-then-state-eq0 : goal.returns-then-state-eq0
returns-then-state-eq0 c = part_goes_on c.args.setup.now c.args.ring.now c.requires.windowed c.args.state c.args.scan_counts.now c.requires.backs _ c.before-part.ensures _ _ _ c.backward_low.ensures

pub backward_part-requires : goal.backward_part-requires
backward_part-requires c = (part_ready c.args.setup.now c.args.ring.now c.requires.windowed c.args.state c.args.scan_counts.now c.requires.backs _ c.before-part.ensures c.requires.low_nonzero.1).0

pub returns-else-state-eq0 : goal.returns-else-state-eq0
returns-else-state-eq0 c = part_goes_on c.args.setup.now c.args.ring.now c.requires.windowed c.args.state c.args.scan_counts.now c.requires.backs _ c.before-part.ensures _ _ _ (whole_over _ _ _ _ _ _ _ c.before-part.ensures.some _ _ c.backward_part.ensures)
