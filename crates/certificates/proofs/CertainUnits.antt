-- What makes the start at index j of a window a backward scan's find, in naturals: places from `low_from` on score below 0; those between it and j stay within the drop limit of all newer ones there, and below j;
-- those older than j stay below j down to `oldest`, where the scan is at its end or drops; and the forward scan from j is best at the newest place.
use Rattle.std.proofs.Common.{◌≡◌, ℕ, ◌+◌, ◌-◌, ◌≤◌, ◌<◌, ◌⊎◌, List, length, take, drop}
use lib.Ieee.{binary64}
use Rattle.floats.specs.Value.{Finite}
use Rattle.floats.specs.Terms.Rounded.{pos64, neg64}
use Rattle.letters.specs.Place.{Place}
use Rattle.scans.specs.Setup.{Setup}
use Rattle.scans.specs.Terms.Units.{margin, gain, loss}
use Rattle.scans.proofs.Shape.{UsualShape}

-- The place at index a is the l-th from the newest where a + l is the window's length.
pub record CertainUnits (S : Setup) (q : List Place) (j : ℕ) : Type 0 where
  pub shape : UsualShape S
  pub drop_number : Finite binary64 S.drop_limit
  pub low_from : ℕ
  pub oldest : ℕ
  pub j_before : j < low_from
  pub low_within : low_from ≤ length q
  pub low : (a l : ℕ) → a + l ≡ length q → 0 < l → low_from ≤ a → gain S (drop a q) + margin ≤ loss S l
  pub steady : (a k i l : ℕ) → a + k ≡ length q → i + l ≡ length q → j < i → i < a → a < low_from
      → gain S (drop a q) + margin + loss S l + neg64 S.drop_limit ≤ gain S (drop i q) + pos64 S.drop_limit + loss S k
  pub above : (a k : ℕ) → a + k ≡ length q → j < a → a < low_from → gain S (drop a q) + margin + loss S (length q - j) ≤ gain S (drop j q) + loss S k
  pub older : (i l : ℕ) → i + l ≡ length q → oldest ≤ i → i < j → gain S (drop i q) + margin + loss S (length q - j) ≤ gain S (drop j q) + loss S l
  pub ends : (oldest ≡ 0)
      ⊎ ((oldest < j) × ((l : ℕ) → oldest + l ≡ length q → gain S (drop oldest q) + pos64 S.drop_limit + margin + loss S (length q - j) ≤ gain S (drop j q) + loss S l + neg64 S.drop_limit))
  pub newest : (m : ℕ) → 0 < m → m + j < length q → gain S (take m (drop j q)) + margin + loss S (length q - j) ≤ gain S (drop j q) + loss S m
  pub high : margin + loss S (length q - j) ≤ gain S (drop j q)
