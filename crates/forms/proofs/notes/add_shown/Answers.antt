use Rattle.std.proofs.Common.{◌≡◌, length, rules}
use Rattle.forms.proofs.Numbered.{shown_start, shown_more, shown_all}
use Rattle.forms.proofs.notes.add_shown.Goals as goal

pub loop-i-init : goal.loop-i-init
loop-i-init c = shown_start c.args.text.now.items c.args.name.now

pub loop-i-preserved : goal.loop-i-preserved
loop-i-preserved c =
    shown_more c.args.text.now.items _ _ c.args.name.now c.loop-i.i c.loop-i-test.true c.loop-i.invariant c.in_ok-add_escaped.ensures

pub returns : goal.returns
returns c =
    let all : c.loop-i.i ≡ length c.args.name.now = search rules in
    shown_all c.args.text.now.items _ c.args.name.now c.loop-i.i all c.loop-i.invariant
