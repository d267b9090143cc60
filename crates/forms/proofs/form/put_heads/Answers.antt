use Rattle.std.proofs.Common.{◌≡◌, ◌<◌, min, length, length-set, ◌∙◌, refl, sym, ap, rules}
use lib.ListN.{length-map}
use Rattle.forms.specs.Form.{head_of, by_form}
use Rattle.forms.proofs.Writers.{form_at, upto_start, upto_more, upto_stop, upto_all}
use Rattle.forms.proofs.form.put_heads.Goals as goal

pub loop-i-init : goal.loop-i-init
loop-i-init g c = record { same = refl; sent = upto_start _ _ }

pub loop-i-preserved : goal.loop-i-preserved
loop-i-preserved g c =
    let I = c.loop-i.invariant in
    let h : c.loop-i.i < length c.loop-i.outs = search rules in
    let k : c.loop-i.i < length c.args.forms.now = search rules in
    record {
      same = length-set _ _ _ ∙ I.same;
      sent =
          upto_more (λ w. g.W.Write.contents w) _ _ c.loop-i.i c.index-outs-i.result _ (by_form head_of c.args.forms.now) _ h
          (sym (form_at head_of c.args.forms.now c.loop-i.i _ k)) I.sent c.in_default.ensures;
    }

pub returns-in-Err : goal.returns-in-Err
returns-in-Err g c =
    let I = c.loop-i.invariant in
    let h : c.loop-i.i < length c.loop-i.outs = search rules in
    let k : c.loop-i.i < length c.args.forms.now = search rules in (
      c.loop-i.i,
      upto_stop (λ w. g.W.Write.contents w) _ _ c.loop-i.i c.index-outs-i.result _ (by_form head_of c.args.forms.now) _ h
          (sym (form_at head_of c.args.forms.now c.loop-i.i _ k)) I.sent c.in-Err.ensures,
    )

pub returns : goal.returns
returns g c =
    let all : c.loop-i.i ≡ min (length c.args.forms.now) (length c.args.outs.now) = search rules in
    upto_all head_of c.args.forms.now _ _ c.loop-i.i (all ∙ ap (λ n. min (length c.args.forms.now) n) (sym (length-map c.args.outs.now (λ w. g.W.Write.contents w)))) c.loop-i.invariant.sent
