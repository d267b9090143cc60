-- Candidates whose forward scan cannot be best at the newest place: the terms of the contracts of the code that leaves them untried.
use Rattle.std.specs.Prelude.{◌≡◌, Bool, true, List, ℕ, ◌≤◌, length, drop, Float}
use Rattle.letters.specs.Place.{Place}
use Rattle.scans.specs.Setup.{Setup}
use Rattle.scans.specs.Counts.{cleared}
use Rattle.scans.specs.Scans.{none, dust_forward, dust_backward}
use Rattle.scans.specs.Terms.Counted.{Touched}

-- No forward scan from a place between `oldest` and `newest` is best at the window's newest place, whatever its limit.
pub record NoneEnds (S : Setup) (q : List Place) (oldest newest : ℕ) : Type 0 where
  pub fails : (j : ℕ) (x : Float) → oldest ≤ j → j ≤ newest → (dust_forward S q j x).sums.found ≡ length q → ⊥

-- The answer r of the walk over the newest places; only places from `oldest` on have counts.
pub record FallsShort (S : Setup) (q : List Place) (oldest newest : ℕ) (r : Bool) (counts : List ℕ) : Type 0 where
  pub told : r ≡ true → NoneEnds S q oldest newest
  pub touched : Touched counts (drop oldest q)

-- The answer r tells that the search at the window's newest place finds nothing.
pub record TellsNone (S : Setup) (q : List Place) (r : Bool) (counts : List ℕ) : Type 0 where
  pub told : r ≡ true → (dust_backward S q).find ≡ none
  pub clear : counts ≡ cleared S
