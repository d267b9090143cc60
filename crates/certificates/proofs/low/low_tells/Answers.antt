use Rattle.certificates.proofs.LowReading.{clear_asks}
use Rattle.certificates.proofs.low.low_tells.Goals as goal

pub clear_from-requires-clause-from_le_len : goal.clear_from-requires-clause-from_le_len
clear_from-requires-clause-from_le_len c =
    let k = c.read_near-a.ensures in
    (clear_asks c.requires.windowed k.inside k.counted).1
