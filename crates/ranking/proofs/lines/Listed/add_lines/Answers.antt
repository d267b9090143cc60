use Rattle.std.proofs.Common.{refl, ◌∙◌}
use Rattle.ranking.proofs.Parts.{lines_start, lines_more}
use Rattle.ranking.proofs.lines.Listed.add_lines.Goals as goal

pub loop-i-init : goal.loop-i-init
loop-i-init c = record { text_is = lines_start _ c.args.text.now.items; room = record { codes = refl; counts = refl } }

pub loop-i-preserved : goal.loop-i-preserved
loop-i-preserved c =
    let r = c.add_line.ensures.room in
    let s = c.loop-i.invariant.room in
    record {
      text_is = lines_more _ c.args.text.now.items c.loop-i.i c.loop-i.text.items _ c.loop-i.invariant.text_is c.in_ok-add_line.ensures.line;
      room = record { codes = r.codes ∙ s.codes; counts = r.counts ∙ s.counts };
    }
