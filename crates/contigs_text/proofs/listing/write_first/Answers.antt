use Rattle.std.proofs.Common.{◌<◌, length, rules}
use Rattle.contigs_text.proofs.First.{first_sent}
use Rattle.contigs_text.proofs.listing.write_first.Goals as goal

pub returns : goal.returns
returns g c =
    let some : 0 < length c.args.outs.now = search rules in
    first_sent (λ w. g.W.Write.contents w) c.args.outs.now c.index-outs-0.result c.write_whole.new.out c.args.text.now some
    c.write_whole.result c.write_whole.ensures
