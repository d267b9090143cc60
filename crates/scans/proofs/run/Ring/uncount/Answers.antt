use Rattle.scans.proofs.Walk.{queued_as, uncounted_both}
use Rattle.scans.proofs.run.Ring.uncount.Goals as goal

pub uncount_part-requires : goal.uncount_part-requires
uncount_part-requires c = c.parts-parts.ensures.older_coded c.requires.kmers_counted

pub uncount_part-requires-2 : goal.uncount_part-requires-2
uncount_part-requires-2 c = c.parts-parts.ensures.newer_coded (queued_as _ c.uncount_part.auto.scan_counts c.requires.kmers_counted)

pub returns : goal.returns
returns c = uncounted_both _ _ _ _ _ _ _ c.parts-parts.ensures.both c.uncount_part.auto.scan_counts c.requires.from_le_to.2 c.uncount_part.ensures c.uncount_part-2.ensures
