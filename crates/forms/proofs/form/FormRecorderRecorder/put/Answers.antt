use Rattle.std.proofs.Common.{map, sym, ◌∙◌}
use Rattle.forms.proofs.Reports.{recorded_by, accepted_is, bare_is, refused_is}
use Rattle.forms.proofs.form.FormRecorderRecorder.put.Goals as goal

pub returns-in-Ok-Ok-clause-recorded : goal.returns-in-Ok-Ok-clause-recorded
returns-in-Ok-Ok-clause-recorded g c =
    recorded_by _ _ (map (λ w. g.W.Write.contents w) c.args.outs.now) (map (λ w. g.W.Write.contents w) c.put_accepted.new.outs) (g.N.Write.contents c.args.notes.now) (g.N.Write.contents c.args.notes.now) c.put_accepted.result
    (accepted_is c.args.self.now.forms.now (g.M.Maker.options c.args.self.now.masker) (g.M.Maker.making c.args.self.now.masker) c.args.self.now.skip_short c.args.self.now.min_length
    c.args.entry.now _ c.as_slice-letters.ensures.value _ c.make.new.list.items c.make.new.marks.items c.in-Ok-Ok.count c.make.ensures.options
    (rw c.in-Ok-Ok.field-0-is at c.in-Ok-Ok.ensures.makes))
    (rw (c.as_slice.ensures.value, c.as_slice-in-Ok-Ok.ensures.value) at c.put_accepted.ensures (g.N.Write.contents c.args.notes.now))

pub returns-then-passes-clause-recorded : goal.returns-then-passes-clause-recorded
returns-then-passes-clause-recorded g c =
    recorded_by _ _ (map (λ w. g.W.Write.contents w) c.args.outs.now) (map (λ w. g.W.Write.contents w) c.put_accepted-then-passes.new.outs) (g.N.Write.contents c.args.notes.now) (g.N.Write.contents c.args.notes.now) c.put_accepted-then-passes.result
    (bare_is c.args.self.now.forms.now (g.M.Maker.options c.args.self.now.masker) (g.M.Maker.making c.args.self.now.masker) c.args.self.now.skip_short c.args.self.now.min_length
    c.args.entry.now _ c.as_slice-letters.ensures.value c.make.new.list.items c.make.new.marks.items c.in-Ok-Err.refusal
    (rw c.in-Ok-Err.field-0-is at c.in-Ok-Err.ensures.makes) _ c.make.ensures.options (sym c.passes.ensures ∙ c.if-passes.true))
    (c.put_accepted-then-passes.ensures (g.N.Write.contents c.args.notes.now))

pub returns-else-passes-clause-recorded : goal.returns-else-passes-clause-recorded
returns-else-passes-clause-recorded g c =
    recorded_by _ _ (map (λ w. g.W.Write.contents w) c.args.outs.now) (map (λ w. g.W.Write.contents w) c.put_refused.new.outs) (g.N.Write.contents c.args.notes.now) (g.N.Write.contents c.put_refused.new.notes) c.put_refused.result
    (refused_is c.args.self.now.forms.now (g.M.Maker.options c.args.self.now.masker) (g.M.Maker.making c.args.self.now.masker) c.args.self.now.skip_short c.args.self.now.min_length
    c.args.entry.now _ c.as_slice-letters.ensures.value c.make.new.list.items c.make.new.marks.items c.in-Ok-Err.refusal
    (rw c.in-Ok-Err.field-0-is at c.in-Ok-Err.ensures.makes) (sym c.passes.ensures ∙ c.if-passes.false))
    c.put_refused.ensures
