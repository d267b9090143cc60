use Rattle.certificates.proofs.LowReading.{clear_asks}
use Rattle.certificates.proofs.low.find_low.Goals as goal

pub clear_from-requires-clause-from_le_len : goal.clear_from-requires-clause-from_le_len
clear_from-requires-clause-from_le_len c =
    let k = c.read_low-a.ensures in
    (clear_asks c.requires.windowed k.inside k.counted).1
