use Rattle.std.proofs.Common.{◌≡◌, ◌<◌, length, length-set, ◌∙◌, refl, sym, rules}
use lib.ListN.{length-map}
use Rattle.forms.proofs.Writers.{upto_start, upto_more, upto_stop}
use Rattle.strands.proofs.Sent.{all_sent}
use Rattle.strands.proofs.recording.write_each.Goals as goal

pub loop-i-init : goal.loop-i-init
loop-i-init g c = record { same = refl; sent = upto_start _ _ }

pub loop-i-preserved : goal.loop-i-preserved
loop-i-preserved g c =
    let I = c.loop-i.invariant in
    let h : c.loop-i.i < length c.loop-i.outs = search rules in
    record {
      same = length-set _ _ _ ∙ I.same;
      sent = upto_more (λ w. g.W.Write.contents w) _ _ c.loop-i.i c.index-outs-i.result _ (λ i. c.args.bytes.now) _ h refl I.sent c.in_default.ensures;
    }

pub returns-in-Err : goal.returns-in-Err
returns-in-Err g c =
    let I = c.loop-i.invariant in
    let h : c.loop-i.i < length c.loop-i.outs = search rules in
    (c.loop-i.i, upto_stop (λ w. g.W.Write.contents w) _ _ c.loop-i.i c.index-outs-i.result _ (λ i. c.args.bytes.now) _ h refl I.sent c.in-Err.ensures)

pub returns : goal.returns
returns g c =
    let all : c.loop-i.i ≡ length c.args.outs.now = search rules in
    all_sent _ _ c.loop-i.i (λ i. c.args.bytes.now) (all ∙ sym (length-map c.args.outs.now (λ w. g.W.Write.contents w))) c.loop-i.invariant.sent
