-- Terms of contracts: starts that may score 0, none of which can be best at the newest place.
use Rattle.std.specs.Prelude.{◌≡◌, ℕ, ◌+◌, ◌-◌, ◌<◌, ◌≤◌, ◌⊎◌, List, length, get_or, drop}
use Rattle.letters.specs.Place.{Place, ambiguous, plain, Below}
use Rattle.scans.specs.Setup.{Setup, kmers}
use Rattle.scans.specs.Terms.Shape.{Usual}
use Rattle.search.specs.Terms.Fails.{NoneEnds}
use Rattle.deep.specs.declared.Scale.{Scale}
use Rattle.deep.specs.declared.Middle.{Middle}
use Rattle.deep.specs.Scores.{gain, loss, mu}
use Rattle.deep.specs.Terms.Told.{FindsNone}
use Rattle.deep.specs.Terms.Wholes.{Scaled}

-- The order of a place before the older ones of a stretch, by the counts of the stretch and the place's order c before the newer ones; 0 if ambiguous.
abbrev pub order_left : List ℕ → ℕ → Place → ℕ
order_left counts c ambiguous = 0
order_left counts c (plain x) = get_or counts x 0 + 1 - c

-- Whatever the setup that the whole numbers are of, no forward scan from a place of the middle is best at the newest place.
pub record AllShort (s : Scale) (q : List Place) (m : Middle) : Type 0 where
  pub fails : (S : Setup) → Scaled S s.threshold s.ln.now s.f.now → Usual S → Below (kmers S) q → length q ≤ S.window_size → NoneEnds S q m.from (length q - m.low - 1)

-- The starts outside of the middle score 2^-10 below 0 or less.
pub record LowOutside (s : Scale) (q : List Place) (m : Middle) : Type 0 where
  pub low : (a l : ℕ) → a + l ≡ length q → 0 < l → (l ≤ m.low) ⊎ (a < m.from) → gain s.ln.now (drop a q) + mu ≤ loss s.threshold s.f.now l

-- Where they do, the search finds nothing.
pub record NoneBut (s : Scale) (q : List Place) (m : Middle) : Type 0 where
  pub finds_none : LowOutside s q m → FindsNone s q
