-- The paper, 'Letters and places': the exact score of a stretch, over tables of whole numbers and over the paper's floats, the letters it gives evidence for, and a stretch with no better shorter one.
use Rattle.std.specs.Prelude.{ℕ, zero, suc, ◌+◌, ◌*◌, ◌≤◌, ◌<◌, List, length, take, drop, ℤ, pos, neg_ℤ, ◌+ℤ◌, ◌-ℤ◌, ◌*ℤ◌, ◌≤ℤ◌}
use Rattle.floats.specs.Binary64.{one, value64}
use Rattle.letters.specs.Place.{Place}
use Rattle.scans.specs.Setup.{Setup, ln_at, f_at, kmers}
use Rattle.scans.specs.Counts.{count}

-- ---- Over any tables of whole numbers and a whole number t, all of one unit.
-- ln entries 1..m.
unfoldable pub ln_sum : (ℕ → ℤ) → ℕ → ℤ
ln_sum ln zero = pos 0
ln_sum ln (suc m) = ln_sum ln m +ℤ ln (suc m)

-- For each k-mer below b, found m times: ln entries 1..m.
unfoldable pub ln_sums : (ℕ → ℤ) → ℕ → List Place → ℤ
ln_sums ln zero q = pos 0
ln_sums ln (suc b) q = ln_sums ln b q +ℤ ln_sum ln (count b q)

-- Minus L times T.
abbrev pub score_without_f : (ℕ → ℤ) → ℤ → ℕ → List Place → ℤ
score_without_f ln t b q = ln_sums ln b q -ℤ pos (length q) *ℤ t

-- Minus f entry L.
abbrev pub score_by : (ℕ → ℤ) → (ℕ → ℤ) → ℤ → ℕ → List Place → ℤ
score_by ln f t b q = score_without_f ln t b q -ℤ f (length q)

-- ---- Over the paper's: each float stands for its whole multiple of 2^-1074.
abbrev pub ln_value : Setup → ℕ → ℤ
ln_value S c = value64 (ln_at S c)

abbrev pub f_value : Setup → ℕ → ℤ
f_value S l = value64 (f_at S l)

unfoldable pub score : Setup → List Place → ℤ
score S q = score_by (ln_value S) (f_value S) (value64 S.score_threshold) (kmers S) q

-- Places first .. first + size - 1.
abbrev pub stretch : List Place → ℕ → ℕ → List Place
stretch ps first size = take size (drop first ps)

-- The letter x lies in the letters max(0, first - k + 1) .. first + size - 1 of a stretch of 1 to w places of the strand `ps`
-- whose exact score is at least -(n + w + 4) / 2^32, n being the number of the strand's letters.
pub record Evidence (S : Setup) (ps : List Place) (x : ℕ) : Type 0 where
  pub first : ℕ
  pub size : ℕ
  pub nonempty : 0 < size
  pub short : size ≤ S.window_size
  pub within : first + size ≤ length ps
  pub from : first + 1 ≤ x + S.kmer
  pub to : x < first + size
  pub high : neg_ℤ (pos ((length ps + S.window_size + 4) * one)) ≤ℤ (score S (stretch ps first size) *ℤ pos 4294967296)

-- No shorter stretch from the same first place is better: of L places, the exact score of the first m exceeds that of all by at most (2L + 2) / 2^32.
abbrev pub allowance : ℕ → ℕ
allowance l = (2 * l + 2) * one

pub record NoBetterShorter (S : Setup) (q : List Place) : Type 0 where
  pub at_most : (m : ℕ) → 0 < m → m < length q → (score S (take m q) *ℤ pos 4294967296) ≤ℤ (score S q *ℤ pos 4294967296 +ℤ pos (allowance (length q)))
