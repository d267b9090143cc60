-- Terms of contracts: the lists of both strands, and what is lent for them.
use Rattle.std.specs.Prelude.{◌≡◌, Bool, cond, List, [], ℕ, ◌+◌, ◌/◌, ◌^◌, ◌≤◌, ◌<◌, length, take}
use Rattle.buffers.specs.Free.{Free}
use Rattle.letters.specs.Code.{reverse_complement}
use Rattle.intervals.specs.declared.Interval.{Interval}
use Rattle.intervals.specs.declared.output.MarksOut.{MarksOut}
use Rattle.scans.specs.declared.Params.{Params}
use Rattle.scans.specs.declared.run.Setup.{Setup as RunSetup}
use Rattle.scans.specs.Setup.{Setup}
use Rattle.scans.specs.Terms.Shape.{Shaped}
use Rattle.step.specs.Step.{intervals_of}
use Rattle.mask.specs.declared.Workspace.{Workspace}

-- The first count entries of a slice hold the list.
pub record Held (is : List Interval) (xs : List Interval) (count : ℕ) : Type 0 where
  pub list_is : take count xs ≡ is
  pub within : count ≤ length xs

-- The list of the other strand; in a forward-only run it is not scanned.
abbrev pub other_intervals : Setup → Bool → List ℕ → List Interval
other_intervals S forward_only s = cond forward_only [] (intervals_of S (reverse_complement s))

-- ---- What is lent.
-- What a run over n letters asks of its numbers and tables. Not a field of `Setup`: the steps of a run ask less.
pub record Runs (s : RunSetup) (n : ℕ) : Type 0 where
  pub kmer_some : 0 < s.params.kmer
  pub kmer_small : s.params.kmer ≤ 12
  pub letters_in : n < 2147483648
  pub wide : 1 < s.params.window_size
  pub small : s.params.window_size ≤ 65535
  pub ln_long : s.params.window_size < length s.ln.now
  pub f_long : s.params.window_size < length s.f.now
  pub shaped : Shaped s.params s.ln.now s.f.now

-- Enough of each buffer for a strand's run, at p's numbers and n letters.
pub record StrandRoom (p : Params) (n n_queue n_window_counts n_scan_counts n_candidates n_list : ℕ) : Type 0 where
  pub queue : p.window_size ≤ n_queue
  pub window_counts : 4 ^ p.kmer ≤ n_window_counts
  pub scan_counts : 4 ^ p.kmer ≤ n_scan_counts
  pub candidates : p.window_size ≤ n_candidates
  pub list : (n + 1) / (p.kmer + 1) ≤ n_list

-- And for the strand of the sequence, and the other one.
abbrev pub ForwardRoom : Params → ℕ → Workspace → Type 0
ForwardRoom p n w = StrandRoom p n (length w.queue.now) (length w.window_counts.now) (length w.scan_counts.now) (length w.candidates.now) (length w.forward_list.now)

pub record ReverseRoom (p : Params) (n : ℕ) (w : Workspace) : Type 0 where
  pub room : StrandRoom p n (length w.queue.now) (length w.window_counts.now) (length w.scan_counts.now) (length w.candidates.now) (length w.reverse_list.now)
  pub codes : n ≤ length w.reverse_codes.now

-- And for what both give joined.
pub record OutRoom (p : Params) (n : ℕ) (o : MarksOut) : Type 0 where
  pub list : (n + 1) / (p.kmer + 1) ≤ length o.list.now
  pub marks : (n + 1) / (p.kmer + 1) ≤ length o.marks.now

-- Each buffer holds free content within its listed size.
pub record Freed (p : Params) (n : ℕ) (old new : Workspace) : Type 0 where
  pub queue : Free p.window_size old.queue.now new.queue.now
  pub window_counts : Free (4 ^ p.kmer) old.window_counts.now new.window_counts.now
  pub scan_counts : Free (4 ^ p.kmer) old.scan_counts.now new.scan_counts.now
  pub candidates : Free p.window_size old.candidates.now new.candidates.now
  pub reverse_codes : Free n old.reverse_codes.now new.reverse_codes.now
  pub forward_list : Free ((n + 1) / (p.kmer + 1)) old.forward_list.now new.forward_list.now
  pub reverse_list : Free ((n + 1) / (p.kmer + 1)) old.reverse_list.now new.reverse_list.now
