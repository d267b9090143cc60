use Rattle.std.proofs.Common.{◌≡◌, ◌<◌, ◌++◌, ◌∙◌, ℕ, List, ap, subst, rules}
use Rattle.std.specs.Io.KnownBytes.{Appends}
use Rattle.forms.specs.Each.{each}
use Rattle.forms.proofs.Numbered.{sent_start, sent_more, cut_off, cut_before}
use Rattle.forms.proofs.each.write_each.Goals as goal

pub loop-i-init : goal.loop-i-init
loop-i-init g c = sent_start (g.L.Lines.line c.args.lines.now) (g.W.Write.contents c.args.out.now) (g.W.Write.contents c.args.out.now)

pub loop-i-preserved : goal.loop-i-preserved
loop-i-preserved g c =
    sent_more (g.L.Lines.line c.args.lines.now) _ _ _ _ _ c.loop-i.invariant (c.as_slice.ensures.value ∙ c.in_default.ensures ∙ ap (λ (l : List ℕ). l ++ g.L.Lines.line c.args.lines.now c.loop-i.i) c.clear.ensures.items)
    c.in_default-write_whole.ensures

pub returns-in-Err : goal.returns-in-Err
returns-in-Err g c =
    cut_before (g.L.Lines.line c.args.lines.now) _ _ c.loop-i.i _ (let h : c.loop-i.i < g.L.Lines.count c.args.lines.now = search rules in h) c.loop-i.invariant

pub returns-in-Err-write_whole : goal.returns-in-Err-write_whole
returns-in-Err-write_whole g c =
    cut_off (g.L.Lines.line c.args.lines.now) _ _ c.loop-i.i _ _ _ (let h : c.loop-i.i < g.L.Lines.count c.args.lines.now = search rules in h) c.loop-i.invariant
    (c.as_slice.ensures.value ∙ c.in_default.ensures ∙ ap (λ (l : List ℕ). l ++ g.L.Lines.line c.args.lines.now c.loop-i.i) c.clear.ensures.items)
    c.in-Err-write_whole.ensures

pub returns : goal.returns
returns g c =
    let all : c.loop-i.i ≡ g.L.Lines.count c.args.lines.now = search rules in
    subst (λ (n : ℕ). Appends (g.W.Write.contents c.args.out.now) (g.W.Write.contents c.loop-i.out) (each (g.L.Lines.line c.args.lines.now) n)) all c.loop-i.invariant
