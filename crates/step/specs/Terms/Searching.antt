-- Terms of contracts: what the newest entry leads to, as the code asks for it.
use Rattle.std.specs.Prelude.{◌≡◌, ℕ, Bool, false, cond, ◌&&◌, ◌||◌, List, get_or, leb, pos, ◌-ℤ◌, Float}
use Rattle.std.specs.Int.Signed.{le_z}
use Rattle.std.specs.Float.{nan}
use Rattle.std.specs.Float.Ieee.{lt}
use Rattle.floats.specs.Arithmetic.{◌⊖◌, ◌⊗◌}
use Rattle.floats.specs.Binary64.{zero64, number}
use Rattle.letters.specs.Place.{Place, ambiguous, plain}
use Rattle.scans.specs.declared.Params.{Params}
use Rattle.scans.specs.Setup.{Setup}
use Rattle.scans.specs.Terms.Numbers.{setup_of}
use Rattle.scans.specs.Counts.{raise}
use Rattle.scans.specs.Scans.{none, at, Outcome, extends, dust_backward}
use Rattle.step.specs.Step.{Run, is_at}
use Rattle.step.specs.Dropping.{look_by}
use Rattle.step.specs.declared.state.State.{State}
use Rattle.step.specs.declared.state.Look.{Look}
use Rattle.step.specs.declared.state.Look.TheVariants.{Pass, Extension, Scan}

-- Whether a place is searched from: it is plain, and its window count at least min_start_cnt.
abbrev pub is_searched : ℕ → List ℕ → Place → Bool
is_searched least window_counts ambiguous = false
is_searched least window_counts (plain x) = leb least (get_or window_counts x 0)

-- Whether extend is tried at letter a.i, by the numbers that the code reads.
abbrev pub tried_by : Params → List Float → State → Bool
tried_by p f a =
    let len : ℕ = a.window.len in
    is_at a.hand.end a.i
    && (lt zero64 (a.window.sum ⊖ get_or f len nan ⊖ number len ⊗ p.score_threshold)
    && (is_at a.window.last_q 0 || le_z (pos len) (pos a.i -ℤ a.hand.start)))

-- An extension that is tried and succeeds raises the k-mer's scan count.
pub record Extended (p : Params) (ln f : List Float) (a : State) (x : ℕ) (counts : List ℕ) (r : Bool) (counts' : List ℕ) : Type 0 where
  pub answer : r ≡ tried_by p f a && extends (setup_of p ln f) counts a.window.len x
  pub counts_are : counts' ≡ cond r (raise counts (plain x)) counts

-- What the look of the code answers: nothing more, a find by extension, or that the backward scan is due.
abbrev pub looked_as : Setup → Run → Look → List ℕ → Outcome
looked_as S a Pass counts = record { find = none; counts = counts }
looked_as S a Extension counts = record { find = at 0; counts = counts }
looked_as S a Scan counts = dust_backward S a.window

abbrev pub counts_looked : Look → List ℕ → Place → List ℕ
counts_looked Pass counts e = counts
counts_looked Extension counts e = raise counts e
counts_looked Scan counts e = counts

pub record Looks (S : Setup) (i : ℕ) (a : Run) (e : Place) (r : Look) (counts' : List ℕ) : Type 0 where
  pub outcome_is : look_by S i a e ≡ looked_as S a r counts'
  pub counts_are : counts' ≡ counts_looked r a.counts e
