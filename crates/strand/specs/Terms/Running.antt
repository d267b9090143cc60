-- Terms of contracts: where the run over a strand stands between its parts, before a letter, at a letter whose backward scan is due and at the end.
use Rattle.std.specs.Prelude.{◌≡◌, ℕ, ◌+◌, ◌-◌, ◌/◌, ◌^◌, ◌<◌, ◌≤◌, List, length, take, replicate, Float}
use Rattle.letters.specs.Place.{places}
use Rattle.intervals.specs.declared.Interval.{Interval}
use Rattle.scans.specs.declared.Params.{Params}
use Rattle.scans.specs.Setup.{Setup}
use Rattle.scans.specs.Scans.{dust_backward}
use Rattle.scans.specs.Terms.Numbers.{setup_of}
use Rattle.scans.specs.Terms.Window.{window, Windowed}
use Rattle.search.specs.Terms.Carry.{Carried, Answers}
use Rattle.step.specs.Step.{whole, run, intervals_of}
use Rattle.step.specs.declared.window.Window.{Window}
use Rattle.step.specs.declared.hand.Open.{Open}
use Rattle.step.specs.declared.state.State.{State}
use Rattle.search.specs.declared.Scanned.{Scanned}
use Rattle.step.specs.Terms.Like.{Like}
use Rattle.step.specs.Terms.KnownCounts.{KnownCounts, answered_by}
use Rattle.step.specs.Terms.Entering.{held}
use Rattle.step.specs.Terms.Finding.{saved_in, Saving, ShapedList, TakesFind}
use Rattle.strand.specs.Terms.ReadingOn.{Read, run_to}

-- ---- What is lent.
-- What a part of the run asks: the numbers lie in their ranges, and the slices that it is lent have the sizes that the paper lists.
pub record PartLent (p : Params) (n n_f n_counts n_list : ℕ) : Type 0 where
  pub kmer_some : 0 < p.kmer
  pub kmer_small : p.kmer ≤ 12
  pub letters_in : n < 2147483648
  pub counts_is : n_counts ≡ 4 ^ p.kmer
  pub f_long : p.window_size < n_f
  pub list_long : (n + 1) / (p.kmer + 1) ≤ n_list

-- What the whole run asks.
pub record StrandLent (p : Params) (n n_ln n_f n_ring n_window_counts n_counts n_candidates n_list : ℕ) : Type 0 where
  pub part : PartLent p n n_f n_counts n_list
  pub ln_long : p.window_size < n_ln
  pub wide : 1 < p.window_size
  pub small : p.window_size ≤ 65535
  pub ring_is : n_ring ≡ p.window_size
  pub window_counts_are : n_window_counts ≡ 4 ^ p.kmer
  pub candidates_long : p.window_size ≤ n_candidates

-- ---- Before a letter.
pub record Before (p : Params) (codes : List ℕ) (ln f : List Float) (a : State) (ring window_counts counts : List ℕ) (list : List Interval) : Type 0 where
  pub read : Read p codes ln f a ring window_counts counts
  pub shaped : ShapedList p.kmer a.i a.hand.start a.hand.end (saved_in a.hand.count list)
  pub count_in : a.hand.count ≤ length list
  pub like : Like a.i (held a ring counts (saved_in a.hand.count list)) (run_to (setup_of p ln f) codes a.i)

-- ---- At a letter whose backward scan is due, from cleared counts.
-- What is known of the answer r to such a scan, which leaves the scan counts counts'.
abbrev pub ScanAnswer : Setup → Window → List ℕ → Scanned → List ℕ → Type 0
ScanAnswer S w ring r counts' = Answers S (window ring w.head w.len) (dust_backward S (window ring w.head w.len)) r counts'

-- What the carried scan asks to tell the answer, from the counts before the newest entry.
pub record Asking (p : Params) (ln f : List Float) (w : Window) (ring window_counts counts : List ℕ) : Type 0 where
  pub some : 0 < w.len
  pub windowed : Windowed p ring w.head w.len window_counts (length ln)
  pub known : KnownCounts (setup_of p ln f) (window ring w.head (w.len - 1)) w counts
  pub counts_is : length counts ≡ 4 ^ p.kmer
  pub f_long : p.window_size < length f

-- Whatever the answer, the run stands before the next letter when it is taken.
pub record Due (p : Params) (codes : List ℕ) (ln f : List Float) (a : State) (ring window_counts counts : List ℕ) (list : List Interval) : Type 0 where
  pub some : 0 < a.window.len
  pub windowed : Windowed p ring a.window.head a.window.len window_counts (length ln)
  pub window_is : window ring a.window.head a.window.len ≡ (run_to (setup_of p ln f) codes (a.i + 1)).window
  pub clear : counts ≡ replicate (4 ^ p.kmer) 0
  pub carried : Carried (setup_of p ln f) (window ring a.window.head (a.window.len - 1)) (whole a.window.last_q) a.window.carry
  pub saving : Saving a.hand list
  pub within : (r : Scanned) (counts' : List ℕ) → ScanAnswer (setup_of p ln f) a.window ring r counts' → r.found ≤ a.window.len
  pub leads : (r : Scanned) (a' : State) (counts' : List ℕ) (list' : List Interval) → ScanAnswer (setup_of p ln f) a.window ring r counts'
      → TakesFind p.kmer a (answered_by a.window r.found r.carry) a' (saved_in a.hand.count list) (saved_in a'.hand.count list')
      → a'.hand.count ≤ length list' → Before p codes ln f a' ring window_counts counts' list'

-- ---- All letters.
-- The run over all letters, and its last interval can be saved.
pub record Finished (p : Params) (codes : List ℕ) (ln f : List Float) (o : Open) (list : List Interval) : Type 0 where
  pub start_is : o.start ≡ (run (setup_of p ln f) (places p.kmer codes)).start
  pub end_is : o.end ≡ (run (setup_of p ln f) (places p.kmer codes)).end
  pub saved_is : saved_in o.count list ≡ (run (setup_of p ln f) (places p.kmer codes)).saved
  pub saving : Saving o list

-- ---- The next letter whose backward scan is due, or the end.
pub record Reached (p : Params) (codes : List ℕ) (ln f : List Float) (i : ℕ) (a : State) (ring window_counts counts : List ℕ) (list : List Interval) : Type 0 where
  pub further : i ≤ a.i
  pub ended : length codes ≤ a.i → Finished p codes ln f a.hand list
  pub due : a.i < length codes → Due p codes ln f a ring window_counts counts list

-- The strand's list, in the first r entries of a slice.
pub record StrandList (S : Setup) (codes : List ℕ) (list : List Interval) (r : ℕ) : Type 0 where
  pub list_is : take r list ≡ intervals_of S codes
  pub count_is : r ≡ length (intervals_of S codes)
