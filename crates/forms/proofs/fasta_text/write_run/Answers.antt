use Rattle.std.proofs.Common.{◌≡◌, ◌<◌, ◌++◌, ◌∙◌, ℕ, List, take, drop, sym, ap, subst, rules}
use Rattle.std.specs.Io.KnownBytes.{Appends}
use Rattle.report.specs.Ascii.{ascii}
use Rattle.forms.specs.Each.{each}
use Rattle.forms.specs.Terms.Runs.{left, line_at}
use Rattle.forms.proofs.Numbered.{sent_start, sent_more, cut_off}
use Rattle.forms.proofs.Runs.{left_none, left_more, taken, dropped}
use Rattle.forms.proofs.fasta_text.write_run.Goals as goal

pub loop-i-init : goal.loop-i-init
loop-i-init g c =
    record {
      rest = sym (left_none c.args.run.letters c.args.letters.now);
      sent = sent_start (line_at c.args.run.letters c.args.letters.now) (g.W.Write.contents c.args.out.now) (g.W.Write.contents c.args.out.now);
    }

pub loop-i-preserved : goal.loop-i-preserved
loop-i-preserved g c =
    let n = c.args.run.letters in
    let I = c.loop-i.invariant in
    record {
      rest = dropped n c.min-n.result c.loop-i.rest.now c.min-n.ensures ∙ ap (λ (l : List ℕ). drop n l) I.rest ∙ sym (left_more c.loop-i.i n c.args.letters.now);
      sent =
          sent_more (line_at n c.args.letters.now) _ _ c.loop-i.i _ _ I.sent
          (ap (λ (l : List ℕ). l ++ ascii "\n") (taken n c.min-n.result c.loop-i.rest.now c.min-n.ensures ∙ ap (λ (l : List ℕ). take n l) I.rest)) c.in_default.ensures;
    }

pub returns-in-Err-clause-sent : goal.returns-in-Err-clause-sent
returns-in-Err-clause-sent g c =
    let n = c.args.run.letters in
    let I = c.loop-i.invariant in
    cut_off (line_at n c.args.letters.now) _ _ c.loop-i.i c.args.run.lines _ _ (let h : c.loop-i.i < c.args.run.lines = search rules in h) I.sent
    (ap (λ (l : List ℕ). l ++ ascii "\n") (taken n c.min-n.result c.loop-i.rest.now c.min-n.ensures ∙ ap (λ (l : List ℕ). take n l) I.rest)) c.in-Err.ensures

pub returns-clause-sent : goal.returns-clause-sent
returns-clause-sent g c =
    let all : c.loop-i.i ≡ c.args.run.lines = search rules in
    subst (λ (i : ℕ). Appends (g.W.Write.contents c.args.out.now) (g.W.Write.contents c.loop-i.out) (each (line_at c.args.run.letters c.args.letters.now) i)) all c.loop-i.invariant.sent

pub returns-clause-left : goal.returns-clause-left
returns-clause-left g c =
    let all : c.loop-i.i ≡ c.args.run.lines = search rules in
    c.loop-i.invariant.rest ∙ ap (λ (i : ℕ). left i c.args.run.letters c.args.letters.now) all
