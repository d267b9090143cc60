use Rattle.std.proofs.Common.{◌≤◌, arith}
use Rattle.forms.proofs.Shares.{few_millionths}
use Rattle.forms.proofs.share.millionths.Goals as goal

pub overflow_cast-result : goal.overflow_cast-result
overflow_cast-result c =
    let few : c.rounded.result ≤ 1000000 = few_millionths c.min.result c.args.d c.rounded.result (omega arith) (omega arith) c.rounded.ensures in
    omega arith
