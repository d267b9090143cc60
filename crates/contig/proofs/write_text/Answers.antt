use Rattle.std.proofs.Common.{[]}
use Rattle.report.proofs.Letters.{held_nothing}
use Rattle.contig.proofs.write_text.Goals as goal

-- `write_text` meets its contract: all bytes are one block.
pub returns : goal.returns
returns c = c.write_held.ensures _ (c.keep_letters.ensures.held [] (rw c.new-held.ensures.len (held_nothing _)))
