use Rattle.std.proofs.Common.{rules, arith}
use Rattle.contigs_text.proofs.MaskLines.{lines_none, lines_next}
use Rattle.contigs_text.proofs.lines.add_lines.Goals as goal

pub loop-interval-init : goal.loop-interval-init
loop-interval-init c = record { inside = omega arith; text = lines_none c.args.name.now c.args.text.now.items c.args.list.now }

pub loop-interval-preserved : goal.loop-interval-preserved
loop-interval-preserved c =
    record {
      inside = search rules;
      text =
          lines_next c.args.name.now c.args.text.now.items c.loop-interval.text.items c.add_place.new.text.items c.push.new.self.items c.args.list.now
          c.loop-interval.interval-index c.loop-interval-test.true c.loop-interval.invariant.text c.in_ok-add_place.ensures c.in_ok-push.ensures.items;
    }
