-- Terms of contracts: the certificate of a start. While it lasts, a backward scan finds that start wherever the forward scan from it is best at the newest place, by exact scores that are apart by more than all rounding errors.
-- An exact score is gain - loss, naturals in units of 2^-1074.
use Rattle.std.specs.Prelude.{◌≡◌, cond, ◌&&◌, Option, Some, None, IfSome, List, [], ◌∷◌, ◌++◌, ◌⊎◌, ℕ, suc, ◌+◌, ◌-◌, ◌*◌, ◌≤◌, ◌<◌, length, get_or, drop, T, Float}
use Rattle.std.specs.Float.{binary64}
use Rattle.std.specs.Float.Ieee.{lt, le, neg}
use Rattle.floats.specs.Value.{Finite}
use Rattle.floats.specs.Arithmetic.{◌⊕◌, ◌⊖◌}
use Rattle.floats.specs.Binary64.{one, zero64}
use Rattle.floats.specs.Terms.Rounded.{pos64, neg64}
use Rattle.letters.specs.Place.{Place}
use Rattle.search.specs.declared.Certificate.{Certificate}
use Rattle.scans.specs.Setup.{Setup, ln_at, f_at, kmers}
use Rattle.scans.specs.Terms.Counted.{Counted}
use Rattle.scans.specs.Terms.Units.{margin, distance, unevenness, gain, loss}
use Rattle.scans.specs.Terms.Shape.{Usual}
use Rattle.scans.specs.Terms.Window.{queue, newest_in}

-- What l places lose, with the f entry of r places more.
abbrev pub loss_ahead : Setup → ℕ → ℕ → ℕ
loss_ahead S r l = l * pos64 S.score_threshold + pos64 (f_at S (l + r))

-- 2^-15 for the scan that made the certificate, and 2^-30 for each of the s letters since: a step of f, and two roundings.
abbrev pub strayed : ℕ → ℕ
strayed s = (s + 32768) * (2 * unevenness)

-- A number that s letters have made of one of at most 2^21 in size.
pub record KeptNumber (s : ℕ) (x : Float) : Type 0 where
  pub ok : Finite binary64 x
  pub high : pos64 x ≤ neg64 x + (2097152 + s * 17) * one
  pub low : neg64 x ≤ pos64 x + (2097152 + s * 17) * one

-- s letters have joined since the certificate was made. The near places, from index near-from on, are each below 0, and h is at least the sum of their ln entries; u is at least each score of the far ones.
-- The place at index a is the l-th from the newest where a + l is the window's length.
pub record LowUnits (S : Setup) (q : List Place) (s low_from near_from : ℕ) (h u : Float) : Type 0 where
  pub order : low_from ≤ near_from
  pub within : near_from ≤ length q
  pub near : (a l : ℕ) → a + l ≡ length q → 0 < l → near_from ≤ a → gain S (drop a q) + margin * 2 ≤ loss S l + strayed s
  pub sum : gain S (drop near_from q) + neg64 h ≤ pos64 h + strayed s
  pub far : (a l : ℕ) → a + l ≡ length q → low_from ≤ a → a < near_from → gain S (drop a q) + neg64 u ≤ pos64 u + loss S l + strayed s
  pub h_kept : KeptNumber s h
  pub u_kept : KeptNumber s u

-- s letters have joined since the certificate was made, and r may still join. In the middle, scores with the f entries of r places more stay within the drop limit of all newer ones, and below that of j.
-- gap is at most the score of j less that of each older start, down to `oldest`, where the scan is at its end or drops.
pub record StartUnits (S : Setup) (q : List Place) (j r s low_from near_from : ℕ) (h u gap : Float) : Type 0 where
  pub low : LowUnits S q s low_from near_from h u
  pub j_before : j < low_from
  pub room : length q + r ≤ j + S.window_size
  pub steady : (a k i l : ℕ) → a + k ≡ length q → i + l ≡ length q → j < i → i < a → a < low_from
      → gain S (drop a q) + loss_ahead S r l + margin * 2 + neg64 S.drop_limit ≤ gain S (drop i q) + loss_ahead S r k + pos64 S.drop_limit
  pub above : (a k l : ℕ) → a + k ≡ length q → j + l ≡ length q → j < a → a < low_from → gain S (drop a q) + loss_ahead S r l + margin * 2 ≤ gain S (drop j q) + loss_ahead S r k
  pub oldest : ℕ
  pub older : (i l k : ℕ) → i + l ≡ length q → j + k ≡ length q → oldest ≤ i → i < j → gain S (drop i q) + pos64 gap + loss S k ≤ gain S (drop j q) + neg64 gap + loss S l + strayed s
  pub ends : (oldest ≡ 0)
      ⊎ ((oldest < j)
      × ((l k : ℕ) → oldest + l ≡ length q → j + k ≡ length q
      → gain S (drop oldest q) + pos64 gap + pos64 S.drop_limit + loss S k ≤ gain S (drop j q) + neg64 gap + neg64 S.drop_limit + loss S l + strayed s))
  pub gap_kept : KeptNumber s gap

-- Setups for which certificates are kept: tables of the usual shape, ln entry 1 not above 0, T not below 2^-10, and a drop limit that is a number.
pub record Certifiable (S : Setup) : Type 0 where
  pub usual : Usual S
  pub ln_first : T (le (ln_at S 1) zero64)
  pub t_some : T (le distance S.score_threshold)
  pub drop_number : Finite binary64 S.drop_limit

-- The certificate's numbers bound the scores of the window q with the start at index j.
pub record Bounds (S : Setup) (q : List Place) (j : ℕ) (c : Certificate) : Type 0 where
  pub setup : Certifiable S
  pub joined : ℕ
  pub low_from : ℕ
  pub few : joined + c.left ≤ 65535
  pub near_in : c.near ≤ length q
  pub units : StartUnits S q j c.left joined low_from (length q - c.near) c.h c.u c.gap
  pub u_below : T (lt c.u (neg distance))
  pub gap_above : T (le distance c.gap)

-- If there is one; without one nothing is certain.
abbrev pub Certified : Setup → List Place → ℕ → Option Certificate → Type 0
Certified S q j c = IfSome c (Bounds S q j)

-- The newest place has the ln entries v, by the counts from the start on, and w, by those of the window; h is the new bound of the near sum.
-- None where the gap, or the bound u of the far scores, comes too near 0.
abbrev pub certificate_step : (t h v w : Float) → Certificate → Option Certificate
certificate_step t h v w c =
    let u : Float = c.u ⊕ (v ⊖ t) in
    let gap : Float = c.gap ⊖ (w ⊖ v) in
    cond (lt u (neg distance) && le distance gap) (Some (record { left = c.left - 1; near = c.near + 1; h = h; u = u; gap = gap })) None

-- None of the entries from index i on but the newest equals that.
abbrev pub NoneFrom : List ℕ → ℕ → ℕ → ℕ → Type 0
NoneFrom ring head len i = (a : ℕ) → i ≤ a → suc a < len → get_or (queue ring head len) a 0 ≡ newest_in ring head len → ⊥

-- r entries lie from the last one that equals the newest to the newest, both counted; 0 where none of the `near` before the newest does.
pub record Since (ring : List ℕ) (head len near r : ℕ) : Type 0 where
  pub none : r ≡ 0 → NoneFrom ring head len (len - 1 - near)
  pub some : (r ≡ 0 → ⊥) → (2 ≤ r) × (r ≤ near + 1) × NoneFrom ring head len (len + 1 - r)

-- A place joins the window, which is then q: the certificate c becomes c'. `counts` are those from the start on without it.
pub record CertifiesOn (S : Setup) (q : List Place) (c c' : Option Certificate) (counts : List ℕ) : Type 0 where
  pub keeps : (q₀ : List Place) (e : Place) (j : ℕ) → q ≡ q₀ ++ e ∷ [] → Counted (kmers S) counts (drop j q₀) → Certified S q₀ j c → Certified S q j c'
