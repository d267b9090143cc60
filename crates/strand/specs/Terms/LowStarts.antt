-- Terms of contracts: low starts that are known while letters are read.
use Rattle.std.specs.Prelude.{List, ℕ, ◌+◌, ◌-◌, ◌≤◌, take}
use Rattle.letters.specs.Place.{Place}
use Rattle.scans.specs.Setup.{Setup}
use Rattle.certificates.specs.Terms.Low.{LowBounds}
use Rattle.strand.specs.declared.known.LowSince.{LowSince}
use Rattle.strand.specs.Terms.ReadingOn.{run_to}

-- Before letter i: they are low in the window as it was when `made` letters were read.
pub record KnownLow (S : Setup) (codes : List ℕ) (i : ℕ) (c : LowSince) : Type 0 where
  pub made_in : c.made ≤ i
  pub low : LowBounds S (run_to S codes c.made).window c.starts

-- At letter i, which has entered the window q of `len` places: they are low in what q still holds of that window.
pub record AsksLow (S : Setup) (q : List Place) (len i : ℕ) (c : LowSince) : Type 0 where
  pub made_in : c.made ≤ i
  pub low : LowBounds S (take (len - (i + 1 - c.made)) q) c.starts
