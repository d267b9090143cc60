-- The blocks of a record.
use Rattle.std.proofs.Common.{◌≡◌, ℕ, List, refl}
use Rattle.intervals.specs.declared.Interval.{Interval}
use Rattle.forms.specs.Each.{each}
use Rattle.forms.specs.Bedgraph.{blocks, block_line, bedgraph}

pub bedgraph_as : (name name' : List ℕ) (is is' : List Interval) (n n' size size' : ℕ) → name ≡ name' → is ≡ is' → n ≡ n' → size ≡ size'
    → each (block_line name is n size) (blocks n size) ≡ bedgraph name' is' n' size'
unfolding bedgraph
bedgraph_as name name' is is' n n' size size' p q r s = rw (p, q, r, s) refl
