use Rattle.std.proofs.Common.{◌<◌, length, rules}
use Rattle.forms.proofs.Counted.{count_more}
use Rattle.forms.proofs.counts.few.Goals as goal

pub loop-i-preserved : goal.loop-i-preserved
loop-i-preserved g c =
    let inside : c.loop-i.i < length c.args.letters.now = search rules in
    record {
      few = search rules;
      n_is = count_more (g.K.Kind.test c.args.kind.now) c.args.letters.now c.loop-i.i _ inside c.loop-i.n c.holds.result c.loop-i.invariant.n_is c.holds.ensures;
    }
