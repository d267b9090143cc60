use Rattle.std.proofs.Common.{refl, sym, ap, subst, ℕ, ◌+◌, ◌^◌}
use Rattle.letters.proofs.Entries.{decoded_length}
use Rattle.scans.specs.Terms.Parts.{UpTo}
use Rattle.scans.proofs.Rings.{entries_long}
use Rattle.scans.proofs.Walk.{queued_as}
use Rattle.scans.proofs.ScanCounts.{up_to_cleared}
use Rattle.scans.proofs.ForwardScan.{forward_stopped, forward_both}
use Rattle.scans.proofs.forward.dust_forward.Goals as goal

pub forward_part-older-requires-clause-coded : goal.forward_part-older-requires-clause-coded
forward_part-older-requires-clause-coded c =
    let r = c.requires in
    (c.parts-parts.ensures.older_coded r.tables_reach.queued, up_to_cleared _ (4 ^ c.args.setup.now.params.kmer) _ r.scan_counts_value.0)

pub returns-then-older : goal.returns-then-older
returns-then-older c =
    let r = c.requires in
    forward_stopped c.args.setup.now.params _ _ _ _ _ _ _ (entries_long c.args.ring.now) c.parts-parts.ensures.both _ _ refl _ _ _ _ c.new.ensures.0 r.scan_counts_value.0 c.forward_part-older.ensures c.if-older.true

pub forward_part-requires-clause-coded : goal.forward_part-requires-clause-coded
forward_part-requires-clause-coded c =
    let r = c.requires in
    (c.parts-parts.ensures.newer_coded (queued_as _ c.forward_part-older.auto.scan_counts r.tables_reach.queued), subst (λ (z : ℕ). UpTo z c.forward_part-older.new.scan_counts) (ap (λ (z : ℕ). c.args.start + z) (decoded_length c.parts-parts.result.older.now)) (c.forward_part-older.ensures.few c.if-older.false))

pub returns : goal.returns
returns c =
    let r = c.requires in
    forward_both c.args.setup.now.params _ _ _ _ _ _ _ (entries_long c.args.ring.now) c.parts-parts.ensures.both _ _ refl _ _ _ _ c.new.ensures.0 r.scan_counts_value.0 c.forward_part-older.ensures c.if-older.false _ (ap (λ (z : ℕ). c.args.start + z) (sym (decoded_length c.parts-parts.result.older.now))) _ _ c.forward_part.ensures
