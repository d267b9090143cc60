use Rattle.std.proofs.Common.{◌≡◌, ◌∙◌, ap, arith}
use Rattle.entries.specs.Sums.{plus}
use Rattle.forms.specs.Counts.{n_count}
use Rattle.forms.proofs.Counted.{n_none, n_more}
use Rattle.forms.proofs.counts.n_inside.Goals as goal

pub loop-k-init : goal.loop-k-init
loop-k-init c = record { n_is = n_none c.args.letters.now c.args.list.now }

pub loop-k-preserved : goal.loop-k-preserved
loop-k-preserved c =
    let held : c.saturating_add-n.result ≡ plus c.loop-k.n c.count.result = omega arith in
    record { n_is = held ∙ n_more c.args.letters.now c.args.list.now c.loop-k.k c.loop-k.n c.count.result c.loop-k.invariant.n_is (c.count.ensures.count ∙ ap n_count c.letters_in.ensures.letters) }
