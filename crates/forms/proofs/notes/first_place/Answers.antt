use Rattle.std.proofs.Common.{◌≡◌, ◌<◌, length, rules}
use Rattle.forms.proofs.Numbered.{place_found, place_more, place_none}
use Rattle.forms.proofs.notes.first_place.Goals as goal

pub returns-then-earns : goal.returns-then-earns
returns-then-earns c =
    let h : c.loop-i.i < length c.args.letters.now = search rules in
    place_found c.args.high c.args.letters.now c.loop-i.i h c.loop-i.invariant _ c.earns.ensures c.if-earns.true

pub loop-i-preserved : goal.loop-i-preserved
loop-i-preserved c =
    let h : c.loop-i.i < length c.args.letters.now = search rules in
    place_more c.args.high c.args.letters.now c.loop-i.i h c.loop-i.invariant _ c.earns.ensures c.if-earns.false

pub returns : goal.returns
returns c =
    let all : c.loop-i.i ≡ length c.args.letters.now = search rules in
    place_none c.args.high c.args.letters.now c.loop-i.i all c.loop-i.invariant
