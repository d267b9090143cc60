-- The sizes of the buffers.
use Rattle.std.specs.Prelude.{ℕ, ◌+◌, ◌^◌, ◌≡◌, ◌≤◌, length}
use Rattle.checks.specs.Tests.{most_intervals}
use Rattle.longdust.specs.declared.LongdustOptions.{LongdustOptions}
use Rattle.longdust.specs.declared.one_strand.StrandSpace.{StrandSpace}
use Rattle.strands.specs.declared.masking.StrandMasker.{StrandMasker}

-- Options whose sizes are small.
pub record Few (o : LongdustOptions) : Type 0 where
  pub kmer : o.kmer ≤ 12
  pub window : o.window_size ≤ 65535

-- Exactly the listed sizes for n letters: of the tables, and of what a strand is lent.
pub record StrandSized (o : LongdustOptions) (n : ℕ) (a b : ℕ) (w : StrandSpace) : Type 0 where
  pub ln : a ≡ o.window_size + 1
  pub f : b ≡ o.window_size + 2
  pub queue : length w.queue.now ≡ o.window_size
  pub window_counts : length w.window_counts.now ≡ 4 ^ o.kmer
  pub scan_counts : length w.scan_counts.now ≡ 4 ^ o.kmer
  pub candidates : length w.candidates.now ≡ o.window_size
  pub codes : length w.codes.now ≡ n
  pub list : length w.list.now ≡ most_intervals n o.kmer

-- The same of the masker's own.
pub record StrandFitted (o : LongdustOptions) (n : ℕ) (m : StrandMasker) : Type 0 where
  pub ln : length m.ln.items ≡ o.window_size + 1
  pub f : length m.f.items ≡ o.window_size + 2
  pub queue : length m.queue.items ≡ o.window_size
  pub window_counts : length m.window_counts.items ≡ 4 ^ o.kmer
  pub scan_counts : length m.scan_counts.items ≡ 4 ^ o.kmer
  pub candidates : length m.candidates.items ≡ o.window_size
  pub codes : length m.codes.items ≡ n
  pub options : m.options ≡ o
