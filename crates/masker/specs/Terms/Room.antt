-- The sizes of the buffers.
use Rattle.std.specs.Prelude.{ℕ, ◌+◌, ◌^◌, ◌≡◌, length}
use Rattle.checks.specs.Tests.{most_intervals}
use Rattle.intervals.specs.declared.output.MarksOut.{MarksOut}
use Rattle.mask.specs.declared.Workspace.{Workspace}
use Rattle.longdust.specs.declared.LongdustOptions.{LongdustOptions}
use Rattle.masker.specs.declared.work.Work.{Work}

-- Exactly the listed sizes for n letters.
pub record Sized (o : LongdustOptions) (n : ℕ) (a b c : ℕ) (w : Workspace) (out : MarksOut) : Type 0 where
  pub ln : a ≡ o.window_size + 1
  pub f : b ≡ o.window_size + 2
  pub codes : c ≡ n
  pub queue : length w.queue.now ≡ o.window_size
  pub window_counts : length w.window_counts.now ≡ 4 ^ o.kmer
  pub scan_counts : length w.scan_counts.now ≡ 4 ^ o.kmer
  pub candidates : length w.candidates.now ≡ o.window_size
  pub reverse_codes : length w.reverse_codes.now ≡ n
  pub forward_list : length w.forward_list.now ≡ most_intervals n o.kmer
  pub reverse_list : length w.reverse_list.now ≡ most_intervals n o.kmer
  pub list : length out.list.now ≡ most_intervals n o.kmer
  pub marks : length out.marks.now ≡ most_intervals n o.kmer

-- The same of the work buffers.
pub record Fitted (o : LongdustOptions) (n : ℕ) (b : Work) : Type 0 where
  pub ln : length b.ln.items ≡ o.window_size + 1
  pub f : length b.f.items ≡ o.window_size + 2
  pub codes : length b.codes.items ≡ n
  pub queue : length b.queue.items ≡ o.window_size
  pub window_counts : length b.window_counts.items ≡ 4 ^ o.kmer
  pub scan_counts : length b.scan_counts.items ≡ 4 ^ o.kmer
  pub candidates : length b.candidates.items ≡ o.window_size
  pub reverse_codes : length b.reverse_codes.items ≡ n
  pub forward_list : length b.forward_list.items ≡ most_intervals n o.kmer
  pub reverse_list : length b.reverse_list.items ≡ most_intervals n o.kmer
