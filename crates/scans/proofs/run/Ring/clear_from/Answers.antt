use Rattle.std.proofs.Common.{◌∙◌}
use Rattle.scans.specs.Terms.Counted.{Touched}
use Rattle.scans.proofs.Walk.{queued_as, walked_both, cleared_both}
use Rattle.scans.proofs.run.Ring.clear_from.Goals as goal

pub clear_part-requires : goal.clear_part-requires
clear_part-requires c = c.parts-parts.ensures.older_coded c.requires.kmers_counted

pub clear_part-requires-2 : goal.clear_part-requires-2
clear_part-requires-2 c = c.parts-parts.ensures.newer_coded (queued_as _ c.clear_part.auto.scan_counts c.requires.kmers_counted)

pub returns : goal.returns
returns c =
    let r = c.requires in
    let k = r.kmers_counted in
    cleared_both _ _ _ c.args.scan_counts.now _ k.head_in k.len_in (c.clear_part-2.auto.scan_counts ∙ c.clear_part.auto.scan_counts) (walked_both Touched _ _ _ _ _ _ _ c.parts-parts.ensures.both r.from_le_len.1 c.clear_part.ensures c.clear_part-2.ensures)
