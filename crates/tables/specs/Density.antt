-- The paper, 'Tables and the program': the classes of k-mers, by `calculate_f` and `calculate_f_gc`, as a density record of thirteen ratios and thirteen counts.
use Rattle.std.specs.Prelude.{ℕ, zero, suc, ◌+◌, ◌-◌, ◌*◌, ◌/◌, ◌^◌, List, replicate, Float}
use Rattle.buffers.specs.Fill.{put, tabulate}
use Rattle.floats.specs.Arithmetic.{◌⊖◌, ◌⊗◌, ◌⊘◌}
use Rattle.floats.specs.Binary64.{number, zero64, half64, one64}
use Rattle.letters.specs.Gc.{gc_of}
use Rattle.tables.specs.declared.Density.{Density}
use Rattle.tables.specs.declared.GcOption.{GcOption}
use Rattle.tables.specs.declared.GcOption.TheVariants.{Uniform, Fixed, Auto}
use Rattle.tables.specs.Exp.{powi}

-- Thirteen numbers: f 0 .. f (n - 1), the others 0.
unfoldable pub thirteen : (ℕ → Float) → ℕ → List Float
thirteen f n = put (tabulate f n) (replicate 13 zero64)

-- `calculate_f`: all k-mers in one class, each expected 1 in 4^k times.
unfoldable pub uniform : ℕ → Density
uniform k = record { ratio = thirteen (λ i. one64) 1; count = thirteen (λ i. number (4 ^ k)) 1; classes = 1 }

-- How much more often than 1 in 4^k a k-mer with i letters C or G is expected.
unfoldable pub ratio_at : ℕ → Float → ℕ → Float
ratio_at k gc i = powi (gc ⊘ half64) i ⊗ powi ((one64 ⊖ gc) ⊘ half64) (k - i)

-- k over i
unfoldable pub binomial : ℕ → ℕ → ℕ
binomial k zero = 1
binomial k (suc i) = binomial k i * (k - i) / (i + 1)

-- How many k-mers have i letters C or G.
unfoldable pub count_at : ℕ → ℕ → Float
count_at k i = number (binomial k i * 2 ^ k)

-- `calculate_f_gc`: one class for each number of letters C or G.
unfoldable pub by_gc : ℕ → Float → Density
by_gc k gc = record { ratio = thirteen (ratio_at k gc) (k + 1); count = thirteen (count_at k) (k + 1); classes = k + 1 }

-- The classes for a GC choice, s being the sequence's codes.
unfoldable pub density : ℕ → GcOption → List ℕ → Density
density k Uniform s = uniform k
density k (Fixed gc) s = by_gc k gc
density k Auto s = by_gc k (gc_of s)
