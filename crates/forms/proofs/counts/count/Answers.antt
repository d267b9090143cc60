use Rattle.std.proofs.Common.{◌≡◌, ◌≤◌, ◌+◌, ◌*◌, min, length, arith}
use Rattle.forms.proofs.Counted.{count_block}
use Rattle.forms.proofs.counts.count.Goals as goal

pub loop-k-preserved : goal.loop-k-preserved
loop-k-preserved g c =
    let s = c.args.letters.now in
    let k = c.loop-k.k in
    let inside : 224 * k ≤ length s = omega arith in
    let end : c.min-end.result ≡ min (224 * k + 224) (length s) = omega arith in
    record { n_is = count_block (g.K.Kind.test c.args.kind.now) s k c.min-end.result inside end c.loop-k.n c.few.result c.loop-k.invariant.n_is c.few.ensures }
