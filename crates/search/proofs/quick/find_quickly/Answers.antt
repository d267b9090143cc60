use Rattle.std.proofs.Common.{arith}
use Rattle.scans.proofs.Windows.{long}
use Rattle.search.proofs.quick.find_quickly.Goals as goal

pub clear_from-requires-clause-from_le_len : goal.clear_from-requires-clause-from_le_len
clear_from-requires-clause-from_le_len c = (omega (arith, c.scan_quickly-st.ensures.here.low_in, long c.requires.windowed), c.carry_ahead-ahead.ensures.touched c.if-ahead.false)
