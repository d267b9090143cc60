-- Terms of contracts: the start that the search at the newest place finds, in whole numbers. A start at place j of the window q has length q - j places.
use Rattle.std.specs.Prelude.{◌≡◌, ℕ, ◌+◌, ◌-◌, ◌*◌, ◌<◌, ◌≤◌, List, length, take, drop}
use Rattle.floats.specs.Terms.Rounded.{Ranged}
use Rattle.letters.specs.Place.{Place, Below}
use Rattle.scans.specs.Setup.{Setup, kmers}
use Rattle.scans.specs.Scans.{at, dust_backward}
use Rattle.scans.specs.Terms.Counted.{Counted}
use Rattle.scans.specs.Terms.Shape.{Usual}
use Rattle.deep.specs.declared.Scale.{Scale}
use Rattle.deep.specs.declared.Lead.{Lead}
use Rattle.deep.specs.Scores.{whole, gain, loss, mu}
use Rattle.deep.specs.Terms.Wholes.{Scaled}

-- The drop limit in whole numbers.
pub record Drops (S : Setup) (limit : ℕ) : Type 0 where
  pub ranged : Ranged 1048576 S.drop_limit
  pub is : limit ≡ whole S.drop_limit

-- What the l newest places of q gain.
pub record Gains (s : Scale) (q : List Place) (l g : ℕ) : Type 0 where
  pub gain_is : (a : ℕ) → a + l ≡ length q → g ≡ gain s.ln.now (drop a q)
  pub small : g ≤ l * 137438953472

-- Of the starts of more than `low` places and up to r each is lower than the lead by 2^-10, and at most by the drop limit less 2^-10 lower than one of fewer places.
pub record Middling (s : Scale) (q : List Place) (v : Lead) (r : ℕ) : Type 0 where
  pub above : (a k : ℕ) → a + k ≡ length q → v.low < k → k ≤ r → gain s.ln.now (drop a q) + mu + loss s.threshold s.f.now v.size ≤ v.gain + loss s.threshold s.f.now k
  pub steady : (a k i l : ℕ) → a + k ≡ length q → i + l ≡ length q → v.low < k → k < l → l ≤ r
      → gain s.ln.now (drop a q) + mu + loss s.threshold s.f.now l ≤ gain s.ln.now (drop i q) + v.limit + loss s.threshold s.f.now k

-- The starts of more places than the lead, up to r, are lower than it by 2^-10.
pub record OlderBelow (s : Scale) (q : List Place) (v : Lead) (r : ℕ) : Type 0 where
  pub older : (i l : ℕ) → i + l ≡ length q → v.size < l → l ≤ r → gain s.ln.now (drop i q) + mu + loss s.threshold s.f.now v.size ≤ v.gain + loss s.threshold s.f.now l

-- The start at j leads: it scores 2^-10 or more, and all others 2^-10 less than it or less; between the first start that is not low and it no score falls from an earlier one by the drop limit, up to 2^-10.
pub record LeadsAt (s : Scale) (limit : ℕ) (q : List Place) (j : ℕ) : Type 0 where
  pub low_from : ℕ
  pub j_before : j < low_from
  pub low_within : low_from ≤ length q
  pub low : (a l : ℕ) → a + l ≡ length q → 0 < l → low_from ≤ a → gain s.ln.now (drop a q) + mu ≤ loss s.threshold s.f.now l
  pub steady : (a k i l : ℕ) → a + k ≡ length q → i + l ≡ length q → j < i → i < a → a < low_from
      → gain s.ln.now (drop a q) + mu + loss s.threshold s.f.now l ≤ gain s.ln.now (drop i q) + limit + loss s.threshold s.f.now k
  pub above : (a k : ℕ) → a + k ≡ length q → j < a → a < low_from → gain s.ln.now (drop a q) + mu + loss s.threshold s.f.now (length q - j) ≤ gain s.ln.now (drop j q) + loss s.threshold s.f.now k
  pub older : (i l : ℕ) → i + l ≡ length q → i < j → gain s.ln.now (drop i q) + mu + loss s.threshold s.f.now (length q - j) ≤ gain s.ln.now (drop j q) + loss s.threshold s.f.now l
  pub high : mu + loss s.threshold s.f.now (length q - j) ≤ gain s.ln.now (drop j q)

-- Its places score less, by 2^-10 or more, wherever they end before the newest place.
pub record EndsBest (s : Scale) (q : List Place) (j : ℕ) : Type 0 where
  pub newest : (m : ℕ) → 0 < m → m + j < length q → gain s.ln.now (take m (drop j q)) + mu + loss s.threshold s.f.now (length q - j) ≤ gain s.ln.now (drop j q) + loss s.threshold s.f.now m

-- Whatever the setup that the whole numbers are of, the search finds it, and leaves the counts of its places.
pub record FindsAt (s : Scale) (limit : ℕ) (q : List Place) (j : ℕ) : Type 0 where
  pub found : (S : Setup) → Scaled S s.threshold s.ln.now s.f.now → Drops S limit → Usual S → Below (kmers S) q → length q ≤ S.window_size
      → (counts : List ℕ) → Counted (kmers S) counts (drop j q) → dust_backward S q ≡ record { find = at j; counts = counts }
