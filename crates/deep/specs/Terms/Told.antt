-- Terms of contracts: what whole numbers tell of the search at the newest place.
use Rattle.std.specs.Prelude.{◌≡◌, ℕ, ◌+◌, ◌*◌, ◌%◌, ◌<◌, ◌≤◌, Bool, true, List, length, get_or, drop, IfSome, Option}
use Rattle.letters.specs.Place.{Place, Below}
use Rattle.scans.specs.Setup.{Setup, kmers}
use Rattle.scans.specs.Scans.{none, dust_backward}
use Rattle.scans.specs.Terms.Shape.{Usual}
use Rattle.deep.specs.declared.Scale.{Scale}
use Rattle.deep.specs.declared.Block.{Block}
use Rattle.deep.specs.declared.told.Part.{Part}
use Rattle.deep.specs.Scores.{gain, loss, mu}
use Rattle.deep.specs.Terms.Blocks.{bias}
use Rattle.deep.specs.Terms.Wholes.{Scaled}

-- The starts of 1 to l places of the window q score 2^-10 below 0 or less.
pub record LowTo (s : Scale) (q : List Place) (l : ℕ) : Type 0 where
  pub low : (a m : ℕ) → a + m ≡ length q → 0 < m → m ≤ l → gain s.ln.now (drop a q) + mu ≤ loss s.threshold s.f.now m

-- The newest places that were read gain so much; those left begin with a full block, where the oldest place has number lo. At most 63 more than there are count as read.
pub record ReadPart (s : Scale) (lo : ℕ) (q : List Place) (p : Part) : Type 0 where
  pub some : 0 < p.read
  pub few : p.read < length q + 64
  pub gain_is : (a : ℕ) → a + p.read ≡ length q → p.gain ≡ gain s.ln.now (drop a q)
  pub gain_small : p.gain ≤ p.read * 137438953472
  pub full : (a : ℕ) → a + p.read ≡ length q → 0 < a → (lo + a) % 64 ≡ 0

-- The answer of the test of a block: what its bound says of all its starts.
pub record BlockLow (s : Scale) (b : Block) (p : Part) (r : Bool) : Type 0 where
  pub grows : r ≡ true → get_or s.f.now p.read 0 + b.phi ≤ get_or s.f.now (p.read + 1) 0
  pub below : r ≡ true → p.gain + mu + 1024 + b.top ≤ bias + loss s.threshold s.f.now p.read

-- f grows by no less from a later entry to the next, up to ten of 2^-32: what the floats' unevenness and four roundings come to.
pub record Bends (s : Scale) (w : ℕ) : Type 0 where
  pub bends : (i j : ℕ) → i ≤ j → j < w → get_or s.f.now (i + 1) 0 + get_or s.f.now j 0 ≤ get_or s.f.now (j + 1) 0 + get_or s.f.now i 0 + 10

-- The newest part's starts are low.
pub record NewestLow (s : Scale) (lo : ℕ) (q : List Place) (r : Option Part) : Type 0 where
  pub told : IfSome r (λ (p : Part). LowTo s q p.read × ReadPart s lo q p)

-- The answer whether all starts are low.
pub record AllLow (s : Scale) (q : List Place) (r : Bool) : Type 0 where
  pub told : r ≡ true → Bends s (length q) → LowTo s q (length q)

-- Whatever the setup that the whole numbers are of, the search in the window q finds nothing.
pub record FindsNone (s : Scale) (q : List Place) : Type 0 where
  pub none_found : (S : Setup) → Scaled S s.threshold s.ln.now s.f.now → Usual S → Below (kmers S) q → length q ≤ S.window_size → (dust_backward S q).find ≡ none
