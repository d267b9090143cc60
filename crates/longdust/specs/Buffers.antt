-- The paper, 'Records': the lent buffers, what they hold and how many entries each has.
use Rattle.intervals.specs.declared.Interval.{Interval}
use Rattle.std.specs.Prelude.{List, ℕ, length, Float}
use Rattle.intervals.specs.declared.output.MarksOut.{MarksOut}
use Rattle.mask.specs.declared.Workspace.{Workspace}
use Rattle.scans.specs.declared.ForwardPosition.{ForwardPosition}
use Rattle.longdust.specs.declared.Lent.{Lent}

-- An interval list is a slice of entries, each of two numbers, start and end. The final list has a byte of marks for each entry beside it.
pub record Buffers : Type 0 where
  pub ln : List Float
  pub f : List Float
  pub queue : List ℕ
  pub window_counts : List ℕ
  pub scan_counts : List ℕ
  pub candidates : List ForwardPosition
  pub codes : List ℕ
  pub reverse_codes : List ℕ
  pub forward_list : List Interval
  pub reverse_list : List Interval
  pub list : List Interval
  pub marks : List ℕ

abbrev pub buffers : List Float → List Float → List ℕ → List ℕ → List ℕ → List ForwardPosition → List ℕ → List ℕ
    → List Interval → List Interval → List Interval → List ℕ → Buffers
buffers ln f queue window_counts scan_counts candidates cs reverse_codes forward_list reverse_list list marks =
    record {
      ln = ln;
      f = f;
      queue = queue;
      window_counts = window_counts;
      scan_counts = scan_counts;
      candidates = candidates;
      codes = cs;
      reverse_codes = reverse_codes;
      forward_list = forward_list;
      reverse_list = reverse_list;
      list = list;
      marks = marks;
    }

-- The buffers of a call: its tables, its codes, its workspace and where the list and the marks go.
abbrev pub lends : List Float → List Float → List ℕ → Workspace → MarksOut → Buffers
lends ln f cs w o =
    buffers ln f w.queue.now w.window_counts.now w.scan_counts.now w.candidates.now cs w.reverse_codes.now w.forward_list.now w.reverse_list.now
    o.list.now o.marks.now

-- How many entries they have, where those of the tables and the codes are given.
abbrev pub lent_by : ℕ → ℕ → ℕ → Workspace → MarksOut → Lent
lent_by ln f cs w o =
    record {
      ln = ln;
      f = f;
      queue = length w.queue.now;
      window_counts = length w.window_counts.now;
      scan_counts = length w.scan_counts.now;
      candidates = length w.candidates.now;
      codes = cs;
      reverse_codes = length w.reverse_codes.now;
      forward_list = length w.forward_list.now;
      reverse_list = length w.reverse_list.now;
      list = length o.list.now;
      marks = length o.marks.now;
    }

abbrev pub lengths : Buffers → Lent
lengths b =
    record {
      ln = length b.ln;
      f = length b.f;
      queue = length b.queue;
      window_counts = length b.window_counts;
      scan_counts = length b.scan_counts;
      candidates = length b.candidates;
      codes = length b.codes;
      reverse_codes = length b.reverse_codes;
      forward_list = length b.forward_list;
      reverse_list = length b.reverse_list;
      list = length b.list;
      marks = length b.marks;
    }

-- The sizes of buffers of W places, K counts, N letters and R intervals, where those of the tables and the list are given.
abbrev pub lent_sizes : (W K N R ln f list : ℕ) → Lent
lent_sizes W K N R ln f list =
    record {
      ln = ln;
      f = f;
      queue = W;
      window_counts = K;
      scan_counts = K;
      candidates = W;
      codes = N;
      reverse_codes = N;
      forward_list = R;
      reverse_list = R;
      list = list;
      marks = R;
    }
