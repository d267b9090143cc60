-- The paper, 'Step and scans': the finds that a run makes by a scan, not by an extension, and the stretches of the strand that they are of.
use Rattle.std.specs.Prelude.{◌≡◌, ℕ, ◌+◌, not, ◌&&◌, List, ◌∷◌, ◌++◌, length, T, leb}
use Rattle.letters.specs.Place.{Place, plain}
use Rattle.scans.specs.Setup.{Setup}
use Rattle.scans.specs.Counts.{count}
use Rattle.scans.specs.Scans.{at, extends}
use Rattle.step.specs.Step.{Run, leave, join, extend_tried, search, run}

-- What the run looks from at the letter of the place e, the next after the places `before`.
unfoldable pub looked_from : Setup → List Place → Place → Run
looked_from S before e = join S (leave S (run S before)) e

-- At a letter of the strand `ps` the run searches, does not extend, and finds: the stretch of `size` places from `first` to the newest.
pub record FoundByScan (S : Setup) (ps : List Place) (first size : ℕ) : Type 0 where
  pub before : List Place
  pub kmer : ℕ
  pub after : List Place
  pub strand : before ++ plain kmer ∷ after ≡ ps
  pub state : Run
  pub state_is : state ≡ looked_from S before (plain kmer)
  pub searched : T (leb S.min_start_cnt (count kmer state.window))
  pub not_extended : T (not (extend_tried S (length before) state && extends S state.counts (length state.window) kmer))
  pub index : ℕ
  pub found : (search S (length before) state kmer).find ≡ at index
  pub size_is : index + size ≡ length state.window
  pub first_is : first + size ≡ length before + 1
