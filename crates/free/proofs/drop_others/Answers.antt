use Rattle.std.proofs.Common.{rules, sym, ap, ◌∙◌, ◌<◌, length, leb, le-leb, false, arith}
use Rattle.std.proofs.lemmas.Bool.Decides.{nat_tests}
use Rattle.std.proofs.lemmas.Bool.{lt-leb}
use Rattle.letters.specs.Code.{code}
use Rattle.free.proofs.Setting.{Set, other_before, others_none, others_more, others_same, others_all}
use Rattle.free.proofs.drop_others.Goals as goal
use Rattle.free.proofs.drop_others.Goals.{then-encode-ge4, else-encode-ge4}

pub loop-i-init : goal.loop-i-init
loop-i-init c = others_none _ _

pub loop-i-preserved : goal.loop-i-preserved
loop-i-preserved c =
    let S = c.loop-i.invariant in
    let h : c.loop-i.i < length c.args.map.now = search rules in
    elim c.if-encode-ge4.branch [
      | then-encode-ge4 w ↦ rw w.map-is (others_more _ _ _ _ h S (le-leb _ _ (rw (← c.encode.ensures) w.if-encode-ge4.true)))
      | else-encode-ge4 w ↦ rw w.map-is (others_same _ _ _ _ h S (lt-leb _ _ (rw (← c.encode.ensures) w.if-encode-ge4.false)))
    ]

pub returns : goal.returns
returns c = others_all _ _ _ _ (search rules) c.loop-i.invariant
