-- Terms of contracts: what a find makes of last_q, of the interval in hand and of what is saved.
use Rattle.std.specs.Prelude.{◌≡◌, ℕ, ◌+◌, ◌<◌, ◌≤◌, List, length, take, ℤ, pos, negsuc, Float}
use Rattle.intervals.specs.declared.Interval.{Interval}
use Rattle.intervals.specs.Interval.{Canonical}
use Rattle.intervals.specs.Terms.Bounds.{EndsBelow}
use Rattle.scans.specs.declared.Params.{Params}
use Rattle.scans.specs.Terms.Numbers.{setup_of}
use Rattle.scans.specs.Counts.{count}
use Rattle.scans.specs.Scans.{Find, none, at}
use Rattle.scans.specs.Terms.Window.{find_of, window}
use Rattle.step.specs.Step.{whole, first_letter, start_after, save_from, saved_after}
use Rattle.step.specs.declared.window.Window.{Window}
use Rattle.step.specs.declared.hand.Open.{Open}
use Rattle.step.specs.declared.state.State.{State}
use Rattle.step.specs.Terms.KnownCounts.{Sought, Passes}

abbrev pub last_q_by : Window → Find → Window
last_q_by w none = w
last_q_by w (at j) = record { sum = w.sum; last_q = pos j; head = w.head; len = w.len; live = w.live; carry = w.carry }

abbrev pub start_by : (k i len : ℕ) → Open → Find → ℤ
start_by k i len o none = o.start
start_by k i len o (at j) = start_after o.start o.end (first_letter k i len j)

abbrev pub end_by : ℕ → Open → Find → ℤ
end_by i o none = o.end
end_by i o (at j) = pos (i + 1)

abbrev pub saved_by : (k i len : ℕ) → Open → List Interval → Find → List Interval
saved_by k i len o saved none = saved
saved_by k i len o saved (at j) = saved_after saved o.start o.end (first_letter k i len j)

pub record Found (k i len : ℕ) (o o' : Open) (find : Find) (saved saved' : List Interval) : Type 0 where
  pub start_is : o'.start ≡ start_by k i len o find
  pub end_is : o'.end ≡ end_by i o find
  pub saved_is : saved' ≡ saved_by k i len o saved find

-- An interval has a start and an end, both numbers of 32 bits.
abbrev pub Closing : ℤ → ℤ → Type 0
Closing (pos s) (pos e) = (s < 4294967296) × (e < 4294967296)
Closing (pos s) (negsuc e) = ⊥
Closing (negsuc s) end = Unit {0}

-- The list in the first entries of a slice.
abbrev pub saved_in : ℕ → List Interval → List Interval
saved_in count list = take count list

-- The interval in hand can be saved. Not a field of a type: the interval in hand is a value, and the list is lent.
pub record Saving (o : Open) (list : List Interval) : Type 0 where
  pub closing : Closing o.start o.end
  pub room : o.count ≤ length list
  pub room_after : length (save_from (saved_in o.count list) o.start o.end) ≤ length list

-- ---- Before a letter.
-- After i letters: what is saved is canonical and ends before end, and start, if it is not negative, lies k letters or more before end.
abbrev pub StartOk : ℕ → ℤ → ℕ → Type 0
StartOk k (pos s) e = s + k ≤ e
StartOk k (negsuc s) e = Unit {0}

pub record ShapedList (k i : ℕ) (start end : ℤ) (saved : List Interval) : Type 0 where
  pub canonical : Canonical i k saved
  pub ends_below : EndsBelow (whole end) saved
  pub end_in : whole end ≤ i
  pub start_ok : StartOk k start (whole end)

-- ---- Letter a.i, which has entered, is settled: the state before the next letter.
-- By what was sought.
pub record TakesFind (k : ℕ) (a : State) (r : Sought) (a' : State) (saved saved' : List Interval) : Type 0 where
  pub kmer_is : a'.kmer ≡ a.kmer
  pub i_is : a'.i ≡ a.i + 1
  pub window_is : a'.window ≡ last_q_by r.window (find_of r.found)
  pub found : Found k a.i r.window.len a.hand a'.hand (find_of r.found) saved saved'

-- Without a find.
pub record PassedOn (p : Params) (ln f : List Float) (ring : List ℕ) (a a' : State) (counts counts' : List ℕ) : Type 0 where
  pub kmer_is : a'.kmer ≡ a.kmer
  pub i_is : a'.i ≡ a.i + 1
  pub hand_is : a'.hand ≡ a.hand
  pub passes : Passes (setup_of p ln f) (window ring a.window.head a.window.len) a.window a'.window counts counts'
