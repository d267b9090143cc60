use Rattle.std.proofs.Common.{ℕ, List, length, max, ap, sym, ◌∙◌}
use Rattle.entries.specs.Held.{entry_of}
use Rattle.entries.proofs.Sending.{sent_as}
use Rattle.forms.specs.declared.form.Form.{Form}
use Rattle.forms.specs.Bed.{bed, marked_bed}
use Rattle.forms.specs.Form.{body}
use Rattle.forms.specs.Counts.{accepted_sums}
use Rattle.forms.specs.Summary.{summary}
use Rattle.forms.specs.Bedgraph.{bedgraph}
use Rattle.forms.specs.Strongest.{strongest_lines}
use Rattle.forms.specs.Free.{free_lines}
use Rattle.entries.specs.Held.{lengths_of}
use Rattle.entries.proofs.Kept.{joined_cut}
use Rattle.fasta.specs.Lines.{name_of}
use Rattle.forms.proofs.form.write_body.Goals as goal

pub returns-in-Bed : goal.returns-in-Bed
unfolding bed
returns-in-Bed g c =
    sent_as _ _ _ _ c.write_each.result
    (ap (λ (n : List ℕ). bed c.args.part.now.least n c.args.part.now.list.now) c.name-name.ensures
    ∙ ap (λ (f : Form). body (g.M.Maker.options c.args.part.now.masker.now) c.args.part.now.least f (entry_of c.args.part.now.entry.now) c.args.part.now.list.now c.args.part.now.marks.now) (sym c.in-Bed.is))
    c.write_each.ensures

pub returns-in-Marks : goal.returns-in-Marks
unfolding marked_bed
returns-in-Marks g c =
    sent_as _ _ _ _ c.write_each-in-Marks.result
    (ap (λ (n : List ℕ). marked_bed c.args.part.now.least n c.args.part.now.list.now c.args.part.now.marks.now) c.name-name.ensures
    ∙ ap (λ (f : Form). body (g.M.Maker.options c.args.part.now.masker.now) c.args.part.now.least f (entry_of c.args.part.now.entry.now) c.args.part.now.list.now c.args.part.now.marks.now) (sym c.in-Marks.is))
    c.write_each-in-Marks.ensures

pub returns-in-Soft : goal.returns-in-Soft
returns-in-Soft g c =
    sent_as _ _ _ _ c.write_fasta.result (ap (λ (f : Form). body (g.M.Maker.options c.args.part.now.masker.now) c.args.part.now.least f (entry_of c.args.part.now.entry.now) c.args.part.now.list.now c.args.part.now.marks.now) (sym c.in-Soft.is))
    c.write_fasta.ensures

pub returns-in-HardN : goal.returns-in-HardN
returns-in-HardN g c =
    sent_as _ _ _ _ c.write_fasta-in-HardN.result (ap (λ (f : Form). body (g.M.Maker.options c.args.part.now.masker.now) c.args.part.now.least f (entry_of c.args.part.now.entry.now) c.args.part.now.list.now c.args.part.now.marks.now) (sym c.in-HardN.is))
    c.write_fasta-in-HardN.ensures

pub returns-in-HardX : goal.returns-in-HardX
returns-in-HardX g c =
    sent_as _ _ _ _ c.write_fasta-in-HardX.result (ap (λ (f : Form). body (g.M.Maker.options c.args.part.now.masker.now) c.args.part.now.least f (entry_of c.args.part.now.entry.now) c.args.part.now.list.now c.args.part.now.marks.now) (sym c.in-HardX.is))
    c.write_fasta-in-HardX.ensures

pub returns-in-Summary : goal.returns-in-Summary
returns-in-Summary g c =
    let e = c.args.part.now.entry.now in
    sent_as _ _ _ _ c.write_summary.result
    (ap (λ (l : List ℕ). summary (name_of e.header.items) (accepted_sums l c.args.part.now.list.now)) (sym (joined_cut (lengths_of e.runs.items) e.letters.items))
    ∙ ap (λ (f : Form). body (g.M.Maker.options c.args.part.now.masker.now) c.args.part.now.least f (entry_of e) c.args.part.now.list.now c.args.part.now.marks.now) (sym c.in-Summary.is))
    c.write_summary.ensures

pub returns-in-Bedgraph : goal.returns-in-Bedgraph
returns-in-Bedgraph g c =
    let e = c.args.part.now.entry.now in
    sent_as _ _ _ _ c.write_bedgraph.result
    (ap (λ (l : List ℕ). bedgraph (name_of e.header.items) c.args.part.now.list.now (length l) (max c.in-Bedgraph.size 1)) (sym (joined_cut (lengths_of e.runs.items) e.letters.items))
    ∙ ap (λ (f : Form). body (g.M.Maker.options c.args.part.now.masker.now) c.args.part.now.least f (entry_of e) c.args.part.now.list.now c.args.part.now.marks.now) (sym c.in-Bedgraph.is))
    c.write_bedgraph.ensures

pub returns-in-Strongest : goal.returns-in-Strongest
returns-in-Strongest g c =
    let p = c.args.part.now in
    let e = p.entry.now in
    sent_as _ _ _ _ c.write_strongest.result
    (ap (λ (l : List ℕ). strongest_lines (g.M.Maker.options p.masker.now) c.in-Strongest.wanted (name_of e.header.items) l p.list.now) (sym (joined_cut (lengths_of e.runs.items) e.letters.items))
    ∙ ap (λ (f : Form). body (g.M.Maker.options p.masker.now) p.least f (entry_of e) p.list.now p.marks.now) (sym c.in-Strongest.is))
    c.write_strongest.ensures

pub returns-in-Free : goal.returns-in-Free
returns-in-Free g c =
    let p = c.args.part.now in
    let e = p.entry.now in
    sent_as _ _ _ _ c.write_free.result
    (ap (λ (l : List ℕ). free_lines c.in-Free.pad p.least (name_of e.header.items) l p.list.now) (sym (joined_cut (lengths_of e.runs.items) e.letters.items))
    ∙ ap (λ (f : Form). body (g.M.Maker.options p.masker.now) p.least f (entry_of e) p.list.now p.marks.now) (sym c.in-Free.is))
    c.write_free.ensures
