use Rattle.std.proofs.Common.{sym, ◌∙◌, ap, ◌-◌, [], arith}
use Rattle.letters.specs.Terms.Entry.{decode}
use Rattle.letters.proofs.Entries.{decode_plain, decode_ambiguous}
use Rattle.scans.specs.Terms.Run.{entries_of}
use Rattle.deep.specs.Scores.{order}
use Rattle.deep.proofs.Windows.{long, newest_place, all_ordered, all_places, older_places}
use Rattle.deep.proofs.Newest.{order_none}
use Rattle.deep.proofs.Deep.count_newest.Goals as goal

pub write_newest-requires-clause-entry : goal.write_newest-requires-clause-entry
write_newest-requires-clause-entry c = ap decode c.newest-entry.ensures ∙ newest_place c.args.ring.now c.requires.nonempty

pub write_newest-requires-clause-older : goal.write_newest-requires-clause-older
write_newest-requires-clause-older c = older_places c.args.ring.now c.requires.nonempty c.args.oldest c.args.self.now.cells.now c.requires.before.ordered

pub raise-requires-clause-entry : goal.raise-requires-clause-entry
raise-requires-clause-entry c = ap decode c.newest-entry.ensures ∙ newest_place c.args.ring.now c.requires.nonempty

pub raise-requires-clause-newest : goal.raise-requires-clause-newest
raise-requires-clause-newest c = c.write_newest.ensures.newest ∙ ap (order []) (decode_plain c.newest-entry.result c.if-entry-eq0.true)

pub returns-then-entry-eq0 : goal.returns-then-entry-eq0
returns-then-entry-eq0 c =
    record {
      after = record {
        linked = c.raise.ensures.linked;
        ordered = all_places c.args.ring.now c.requires.nonempty c.args.oldest _ c.raise.ensures.ordered;
        blocked = c.raise.ensures.blocked;
      };
    }

pub returns-else-entry-eq0 : goal.returns-else-entry-eq0
returns-else-entry-eq0 c =
    let r = c.requires in
    let w = c.write_newest.ensures in
    let e = ap decode c.newest-entry.ensures ∙ newest_place c.args.ring.now r.nonempty in
    record {
      after = record {
        linked = w.linked;
        ordered = all_places c.args.ring.now r.nonempty c.args.oldest _
            (all_ordered c.args.ring.now r.nonempty c.args.oldest _
            (order_none c.args.oldest (entries_of c.args.ring.now) (c.args.ring.now.len - 1) (long c.args.ring.now r.nonempty) (omega (arith, r.nonempty, r.window_small)) _
            (sym e ∙ decode_ambiguous c.newest-entry.result c.if-entry-eq0.false) w.older (w.newest ∙ ap (order []) e)));
        blocked = w.blocked;
      };
    }
