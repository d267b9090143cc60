-- Terms of contracts: reading on to the next letter that is searched from.
use Rattle.std.specs.Prelude.{◌≡◌, ℕ, ◌<◌, ◌≤◌, true, List, length, take, Float}
use Rattle.letters.specs.Place.{places}
use Rattle.letters.specs.Terms.Rolling.{kmer_after}
use Rattle.intervals.specs.declared.Interval.{Interval}
use Rattle.scans.specs.declared.Params.{Params}
use Rattle.scans.specs.Setup.{Setup}
use Rattle.scans.specs.Terms.Numbers.{setup_of}
use Rattle.scans.specs.Terms.Window.{window, Windowed}
use Rattle.step.specs.Step.{Run, whole, run}
use Rattle.step.specs.declared.state.State.{State}
use Rattle.step.specs.Terms.Like.{Like}
use Rattle.step.specs.Terms.KnownCounts.{KnownCounts}
use Rattle.step.specs.Terms.Entering.{held, newest_of, Enters}
use Rattle.step.specs.Terms.Searching.{is_searched}

-- The letters before a.i are read.
pub record Read (p : Params) (codes : List ℕ) (ln f : List Float) (a : State) (ring window_counts counts : List ℕ) : Type 0 where
  pub i_in : a.i ≤ length codes
  pub kmer_is : a.kmer ≡ kmer_after p.kmer codes a.i
  pub windowed : Windowed p ring a.window.head a.window.len window_counts (length ln)
  pub known : KnownCounts (setup_of p ln f) (window ring a.window.head a.window.len) a.window counts

-- The definition's run over the letters before letter i.
abbrev pub run_to : Setup → List ℕ → ℕ → Run
run_to S codes i = run S (take i (places S.kmer codes))

-- No letter from a.i to a'.i - 1 is searched from, so the interval in hand, which ends before a.i, stays the same.
pub record Skims (p : Params) (codes : List ℕ) (ln f : List Float) (a a' : State) (ring counts ring' counts' : List ℕ) : Type 0 where
  pub further : a.i ≤ a'.i
  pub hand_is : a'.hand ≡ a.hand
  pub onward : (saved : List Interval) → whole a.hand.end ≤ a.i → Like a.i (held a ring counts saved) (run_to (setup_of p ln f) codes a.i)
      → Like a'.i (held a' ring' counts' saved) (run_to (setup_of p ln f) codes a'.i)

-- Then the next letter, which is searched from, has entered the window.
pub record Stops (p : Params) (codes : List ℕ) (ln f : List Float) (from r : State) (ring counts ring' window_counts' counts' : List ℕ) : Type 0 where
  pub before : State
  pub ring₀ : List ℕ
  pub counts₀ : List ℕ
  pub skims : Skims p codes ln f from before ring counts ring₀ counts₀
  pub enters : Enters p codes ln f before r ring₀ counts₀ ring' window_counts' counts'
  pub searched : is_searched p.min_start_cnt window_counts' (newest_of p r) ≡ true

pub record Skimmed (p : Params) (codes : List ℕ) (ln f : List Float) (from r : State) (ring counts ring' window_counts' counts' : List ℕ) : Type 0 where
  pub ends : length codes ≤ r.i → Skims p codes ln f from r ring counts ring' counts'
  pub stops : r.i < length codes → Stops p codes ln f from r ring counts ring' window_counts' counts'
