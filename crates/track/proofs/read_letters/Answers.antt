use Rattle.std.proofs.Common.{[]}
use Rattle.std.proofs.KnownBytes.{Consumes-nil}
use Rattle.report.proofs.Letters.{held_nothing}
use Rattle.track.proofs.read_letters.Goals as goal

pub loop-init : goal.loop-init
loop-init g c = record { read = ([], Consumes-nil _, held_nothing _); room = c.requires }
