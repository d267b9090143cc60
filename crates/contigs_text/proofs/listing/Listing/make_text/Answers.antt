use Rattle.std.proofs.Common.{List, ap, take, length, ◌≤◌, rules}
use Rattle.intervals.specs.declared.Interval.{Interval}
use Rattle.contigs_text.proofs.Record.{on_ok, text_long, text_masked, text_refused}
use Rattle.contigs_text.proofs.listing.Listing.make_text.Goals as goal

pub returns-then-self-letters-clause-text : goal.returns-then-self-letters-clause-text
returns-then-self-letters-clause-text c =
    on_ok c.add_too_long.result
    (text_long c.args.self.now.limits c.args.self.now.masker.options c.args.entry.now c.name-name.result.now c.as_slice-letters.result.now
    c.clear.new.self.items c.add_too_long.new.text.items c.name-name.ensures c.as_slice-letters.ensures.value c.clear.ensures.items c.if-self-letters.true)
    c.add_too_long.ensures

pub returns-in-Ok-clause-text : goal.returns-in-Ok-clause-text
returns-in-Ok-clause-text c =
    let few : length c.as_slice-letters.result.now ≤ c.args.self.now.limits.letters = search rules in
    on_ok c.add_lines.result
    (text_masked c.args.self.now.limits c.args.self.now.masker.options c.args.entry.now c.name-name.result.now c.as_slice-letters.result.now
    c.clear.new.self.items c.add_lines.new.text.items c.name-name.ensures c.as_slice-letters.ensures.value c.clear.ensures.items few
    c.mask.new.list.items _ c.mask.new.marks.items c.in-Ok.count (rw c.in-Ok.is at c.in_ok-count.ensures.masks)
    (ap (λ (l : List Interval). take c.in-Ok.count l) c.as_slice.ensures.value))
    c.add_lines.ensures

pub returns-in-Err-clause-text : goal.returns-in-Err-clause-text
returns-in-Err-clause-text c =
    let few : length c.as_slice-letters.result.now ≤ c.args.self.now.limits.letters = search rules in
    on_ok c.add_refused.result
    (text_refused c.args.self.now.limits c.args.self.now.masker.options c.args.entry.now c.name-name.result.now c.as_slice-letters.result.now
    c.clear.new.self.items c.add_refused.new.text.items c.name-name.ensures c.as_slice-letters.ensures.value c.clear.ensures.items few
    c.in-Err.refusal (rw c.in-Err.is at c.in_ok-count.ensures.masks))
    c.add_refused.ensures
