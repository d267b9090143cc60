-- Terms of contracts: the run that a state and the lent buffers hold, and how the next letter enters the window.
use Rattle.std.specs.Prelude.{◌≡◌, ℕ, ◌+◌, ◌-◌, ◌/◌, ◌^◌, ◌<◌, ◌≤◌, false, List, [], ◌∷◌, ◌++◌, length, get_or, negsuc, Float}
use Rattle.std.specs.Float.{nan}
use Rattle.floats.specs.Arithmetic.{◌⊕◌, ◌⊖◌}
use Rattle.floats.specs.Binary64.{zero64}
use Rattle.letters.specs.Place.{Place, ambiguous, plain, place_at}
use Rattle.letters.specs.Terms.Entry.{decode}
use Rattle.letters.specs.Terms.Rolling.{no_letter, kmer_after, entry_of}
use Rattle.intervals.specs.declared.Interval.{Interval}
use Rattle.scans.specs.declared.Params.{Params}
use Rattle.scans.specs.Terms.Numbers.{setup_of}
use Rattle.scans.specs.Terms.Window.{window, Windowed}
use Rattle.search.specs.Terms.Carry.{no_carry}
use Rattle.step.specs.Step.{Run, leave, join}
use Rattle.step.specs.declared.window.Window.{Window}
use Rattle.step.specs.declared.hand.Open.{Open}
use Rattle.step.specs.declared.state.State.{State}
use Rattle.step.specs.Terms.KnownCounts.{KnownCounts}

-- The run that a window, an interval in hand, the ring, the scan counts and the saved intervals hold.
abbrev pub held_by : Window → Open → (ring counts : List ℕ) → List Interval → Run
held_by w o ring counts saved =
    record {
      window = window ring w.head w.len;
      sum = w.sum;
      counts = counts;
      start = o.start;
      end = o.end;
      last_q = w.last_q;
      saved = saved;
    }

abbrev pub held : State → (ring counts : List ℕ) → List Interval → Run
held a ring counts saved = held_by a.window a.hand ring counts saved

-- At first: start, end and last_q at -1, sum 0, no queue entry, nothing saved.
abbrev pub unread : State
unread =
    record {
      kmer = no_letter;
      i = 0;
      window = record { sum = zero64; last_q = negsuc 0; head = 0; len = 0; live = false; carry = no_carry };
      hand = record { start = negsuc 0; end = negsuc 0; count = 0 };
    }

-- The place of the newest letter read.
abbrev pub newest_of : Params → State → Place
newest_of p a = decode (entry_of p.kmer a.kmer)

-- ---- The window.
-- The sum without a place that leaves and with one that joins, `counts` being the window counts with the place.
abbrev pub sum_less : List Float → List ℕ → Float → Place → Float
sum_less ln counts sum ambiguous = sum
sum_less ln counts sum (plain x) = sum ⊖ get_or ln (get_or counts x 0) nan

abbrev pub sum_more : List Float → List ℕ → Float → Place → Float
sum_more ln counts sum ambiguous = sum
sum_more ln counts sum (plain x) = sum ⊕ get_or ln (get_or counts x 0) nan

-- With a full queue the oldest entry has left, whatever the f table, the interval in hand and the saved ones are.
pub record Left (p : Params) (ln : List Float) (w w' : Window) (ring counts window_counts' counts' : List ℕ) : Type 0 where
  pub known : (f : List Float) → KnownCounts (setup_of p ln f) (window ring w.head w.len) w counts
      → KnownCounts (setup_of p ln f) (window ring w'.head w'.len) w' counts'
  pub run_is : (f : List Float) (o : Open) (saved : List Interval) → KnownCounts (setup_of p ln f) (window ring w.head w.len) w counts
      → held_by w' o ring counts' saved ≡ leave (setup_of p ln f) (held_by w o ring counts saved)
  pub windowed : Windowed p ring w'.head w'.len window_counts' (length ln)
  pub room : w'.len < p.window_size
  pub live_is : w'.live ≡ w.live

-- The entry e has joined, whatever the others are.
pub record Joined (p : Params) (ln : List Float) (w w' : Window) (e : ℕ) (ring ring' window_counts' : List ℕ) : Type 0 where
  pub known : (f : List Float) (counts : List ℕ) → KnownCounts (setup_of p ln f) (window ring w.head w.len) w counts
      → KnownCounts (setup_of p ln f) (window ring' w'.head (w'.len - 1)) w' counts
  pub run_is : (f : List Float) (o : Open) (counts : List ℕ) (saved : List Interval)
      → held_by w' o ring' counts saved ≡ join (setup_of p ln f) (held_by w o ring counts saved) (decode e)
  pub newest : window ring' w'.head w'.len ≡ window ring' w'.head (w'.len - 1) ++ decode e ∷ []
  pub windowed : Windowed p ring' w'.head w'.len window_counts' (length ln)
  pub some : 0 < w'.len
  pub live_is : w'.live ≡ w.live

-- The entry e stands last in the window, and the scan counts are those before it.
pub record Entered (p : Params) (ln f : List Float) (w : Window) (e : ℕ) (ring window_counts counts : List ℕ) : Type 0 where
  pub some : 0 < w.len
  pub below : e / 2 < 4 ^ p.kmer
  pub windowed : Windowed p ring w.head w.len window_counts (length ln)
  pub known : KnownCounts (setup_of p ln f) (window ring w.head (w.len - 1)) w counts
  pub newest : window ring w.head w.len ≡ window ring w.head (w.len - 1) ++ decode e ∷ []

-- The next letter can enter.
pub record Next (p : Params) (codes : List ℕ) (n_ln : ℕ) (a : State) (ring window_counts : List ℕ) (n_counts : ℕ) : Type 0 where
  pub kmer_small : p.kmer ≤ 12
  pub letters_in : length codes < 2147483648
  pub counts_is : n_counts ≡ 4 ^ p.kmer
  pub i_in : a.i < length codes
  pub kmer_is : a.kmer ≡ kmer_after p.kmer codes a.i
  pub windowed : Windowed p ring a.window.head a.window.len window_counts n_ln

-- It has entered: with a full queue the oldest entry has left, then its place has joined.
pub record Enters (p : Params) (codes : List ℕ) (ln f : List Float) (a a' : State) (ring counts ring' window_counts' counts' : List ℕ) : Type 0 where
  pub run_is : (saved : List Interval)
      → held a' ring' counts' saved ≡ join (setup_of p ln f) (leave (setup_of p ln f) (held a ring counts saved)) (place_at p.kmer codes a.i)
  pub place_is : newest_of p a' ≡ place_at p.kmer codes a.i
  pub kmer_is : a'.kmer ≡ kmer_after p.kmer codes (a.i + 1)
  pub i_is : a'.i ≡ a.i
  pub hand_is : a'.hand ≡ a.hand
  pub entered : Entered p ln f a'.window (entry_of p.kmer a'.kmer) ring' window_counts' counts'
  pub live_is : a'.window.live ≡ a.window.live
