use Rattle.std.proofs.Common.{arith}
use Rattle.tables.proofs.Tables.{ln_filled}
use Rattle.tables.proofs.LnBound.Theorems.{filled_within}
use Rattle.tables.proofs.fill_ln.Goals as goal

pub returns-2-clause-within : goal.returns-2-clause-within
returns-2-clause-within c = filled_within _ c.args.ln.now _ c.requires.w_bound (grind (arith, ln_filled))
