-- What a stretch loses is small.
use Rattle.std.proofs.Common.{arith}
use Rattle.strongest.proofs.Reading.{product_small}
use Rattle.strongest_list.proofs.Rowing.{loss_small}
use Rattle.strongest_list.proofs.rows.Read.next.Goals as goal

pub overflow_mul-loss : goal.overflow_mul-loss
overflow_mul-loss c = omega (arith, product_small c.args.size c.args.request.now.scoring.threshold (omega arith) c.requires.narrow.t_small)

pub overflow_add-loss : goal.overflow_add-loss
overflow_add-loss c = omega (arith, loss_small _ _ _ c.args.request.now.window_size c.args.size c.requires.narrow c.requires.window c.requires.some c.requires.size)
