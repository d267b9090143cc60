use Rattle.std.proofs.Common.{◌≡◌, ◌++◌, ◌∙◌, ℕ, List, [], length, get_or, sym, ap, rules}
use Rattle.entries.specs.Held.{cut}
use Rattle.entries.proofs.Sending.{sent_then, sent_as, front_as, front_cut}
use Rattle.forms.specs.Each.{each}
use Rattle.forms.specs.Fasta.{ended}
use Rattle.forms.specs.Terms.Runs.{left, left_after, line_at, no_run, run_at}
use Rattle.forms.proofs.Numbered.{sent_start, sent_more, cut_off}
use Rattle.forms.proofs.Runs.{after_none, after_more, all_runs}
use Rattle.forms.proofs.fasta_text.write_lines.Goals as goal

pub loop-j-init : goal.loop-j-init
loop-j-init g c =
    record {
      rest = sym (after_none c.args.runs.now c.args.letters.now);
      sent = sent_start (run_at c.args.runs.now c.args.letters.now) (g.W.Write.contents c.args.out.now) (g.W.Write.contents c.args.out.now);
    }

pub loop-j-preserved : goal.loop-j-preserved
loop-j-preserved g c =
    let I = c.loop-j.invariant in
    let r = get_or c.args.runs.now c.loop-j.j no_run in
    record {
      rest = c.in-Ok.ensures.left ∙ ap (λ (l : List ℕ). left r.lines r.letters l) I.rest ∙ sym (after_more c.args.runs.now c.args.letters.now c.loop-j.j);
      sent =
          sent_more (run_at c.args.runs.now c.args.letters.now) _ _ c.loop-j.j _ _ I.sent
          (ap (λ (l : List ℕ). each (line_at r.letters l) r.lines) I.rest) c.in-Ok.ensures.sent;
    }

pub returns-in-Err : goal.returns-in-Err
returns-in-Err g c =
    let I = c.loop-j.invariant in
    let r = get_or c.args.runs.now c.loop-j.j no_run in
    front_as _ _ _ _ (sym (all_runs c.args.runs.now c.args.letters.now))
    (front_cut _ _ _ _
    (cut_off (run_at c.args.runs.now c.args.letters.now) _ _ c.loop-j.j (length c.args.runs.now) _ _ c.loop-j-test.true I.sent
    (ap (λ (l : List ℕ). each (line_at r.letters l) r.lines) I.rest) c.in-Err.ensures.sent))

pub returns : goal.returns
returns g c =
    let I = c.loop-j.invariant in
    let all : c.loop-j.j ≡ length c.args.runs.now = search rules in
    sent_as _ _ _ _ c.write_rest.result
    (ap (λ (l : List ℕ). each (run_at c.args.runs.now c.args.letters.now) c.loop-j.j ++ ended (cut [] l)) I.rest
    ∙ ap (λ (i : ℕ). each (run_at c.args.runs.now c.args.letters.now) i ++ ended (cut [] (left_after c.args.runs.now c.args.letters.now i))) all
    ∙ sym (all_runs c.args.runs.now c.args.letters.now))
    (sent_then _ _ _ _ _ c.write_rest.result I.sent c.write_rest.ensures)
