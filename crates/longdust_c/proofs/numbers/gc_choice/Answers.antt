-- The bits of NAN are those of not-a-number.
use borrow.Author.Rules.{rules}
use borrow.Author.Tests.{ne_eqb}
use lib.Ieee.{of_bits}
use Rattle.longdust_c.proofs.numbers.gc_choice.Goals as goal

pub returns-in_default : goal.returns-in_default
unfolding of_bits
returns-in_default c = let k = c.args.gc_kind in rw (ne_eqb k 0 (search rules), ne_eqb k 1 (search rules), ne_eqb k 2 (search rules))
