-- The paper, 'Records' and 'Tables and the program': the ln table and the f table of a window of w places.
use Rattle.std.specs.Prelude.{ℕ, ◌+◌, List, Float}
use Rattle.buffers.specs.Fill.{tabulate}
use Rattle.floats.specs.Binary64.{number}
use Rattle.tables.specs.declared.Density.{Density}
use Rattle.tables.specs.Ln.{ln_of}
use Rattle.tables.specs.F.{f_of}

-- ln n for n = 0 .. w
unfoldable pub ln_table : ℕ → List Float
ln_table w = tabulate (λ n. ln_of (number n)) (w + 1)

-- f l for l = 0 .. w + 1, with the classes d of the k-mers
unfoldable pub f_table : ℕ → ℕ → Density → List Float
f_table k w d = tabulate (f_of k d) (w + 2)
