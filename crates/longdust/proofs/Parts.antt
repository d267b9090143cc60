-- What the run over both strands asks of its workspace holds for an admitted request, and what it leaves is free in the listed sizes.
use Rattle.std.proofs.Common.{◌≡◌, ap, ap₂, List, ℕ, ◌+◌, ◌/◌, ◌^◌, arith, Float}
use Rattle.buffers.specs.Free.{Free}
use Rattle.buffers.proofs.Lent.{free_at}
use Rattle.checks.specs.Tests.{most_intervals}
use Rattle.intervals.specs.declared.output.MarksOut.{MarksOut}
use Rattle.scans.specs.declared.Params.{Params}
use Rattle.mask.specs.declared.Workspace.{Workspace}
use Rattle.mask.specs.Terms.Both.{ForwardRoom, ReverseRoom, OutRoom, Freed}
use Rattle.longdust.specs.declared.LongdustOptions.{LongdustOptions}
use Rattle.longdust.specs.Buffers.{lends, lengths}
use Rattle.longdust.specs.Terms.Inner.{Admitted}

-- Each buffer is free in its listed size, by the options and m letters.
pub record Listed (o : LongdustOptions) (m : ℕ) (w w' : Workspace) : Type 0 where
  pub queue : Free o.window_size w.queue.now w'.queue.now
  pub window_counts : Free (4 ^ o.kmer) w.window_counts.now w'.window_counts.now
  pub scan_counts : Free (4 ^ o.kmer) w.scan_counts.now w'.scan_counts.now
  pub candidates : Free o.window_size w.candidates.now w'.candidates.now
  pub reverse_codes : Free m w.reverse_codes.now w'.reverse_codes.now
  pub forward_list : Free (most_intervals m o.kmer) w.forward_list.now w'.forward_list.now
  pub reverse_list : Free (most_intervals m o.kmer) w.reverse_list.now w'.reverse_list.now

module _ (o : LongdustOptions) (n : ℕ) (p : Params) (k : p.kmer ≡ o.kmer) (v : p.window_size ≡ o.window_size) where
  pub kmers : 4 ^ p.kmer ≡ 4 ^ o.kmer
  kmers = ap (λ (z : ℕ). 4 ^ z) k

  pub rows : (n + 1) / (p.kmer + 1) ≡ most_intervals n o.kmer
  rows = ap (λ (z : ℕ). (n + 1) / (z + 1)) k

  pub listed_free : {w : Workspace} (w' : Workspace) (m : ℕ) → n ≡ m → Freed p n w w' → Listed o m w w'
  listed_free w' m e r =
      let q : (n + 1) / (p.kmer + 1) ≡ most_intervals m o.kmer = ap₂ (λ (x y : ℕ). (x + 1) / (y + 1)) e k in
      record {
        queue = free_at p.window_size o.window_size _ _ v r.queue;
        window_counts = free_at (4 ^ p.kmer) (4 ^ o.kmer) _ _ kmers r.window_counts;
        scan_counts = free_at (4 ^ p.kmer) (4 ^ o.kmer) _ _ kmers r.scan_counts;
        candidates = free_at p.window_size o.window_size _ _ v r.candidates;
        reverse_codes = free_at n m _ _ e r.reverse_codes;
        forward_list = free_at _ (most_intervals m o.kmer) _ _ q r.forward_list;
        reverse_list = free_at _ (most_intervals m o.kmer) _ _ q r.reverse_list;
      }

  module _ (ln f : List Float) (cs : List ℕ) (w : Workspace) (out : MarksOut) (a : Admitted o n (lengths (lends ln f cs w out))) where
    pub forward_room : ForwardRoom p n w
    forward_room =
        let g = a.enough in
        let e = kmers in
        let r = rows in
        record {
          queue = omega (arith, g.queue);
          window_counts = omega (arith, g.window_counts);
          scan_counts = omega (arith, g.scan_counts);
          candidates = omega (arith, g.candidates);
          list = omega (arith, g.forward_list);
        }

    pub reverse_room : ReverseRoom p n w
    reverse_room =
        let g = a.enough in
        let s = forward_room in
        let r = rows in
        record {
          room = record { queue = s.queue; window_counts = s.window_counts; scan_counts = s.scan_counts; candidates = s.candidates; list = omega (arith, g.reverse_list) };
          codes = g.reverse_codes;
        }

    pub out_room : OutRoom p n out
    out_room = let g = a.enough in let r = rows in record { list = omega (arith, g.list); marks = omega (arith, g.marks) }
