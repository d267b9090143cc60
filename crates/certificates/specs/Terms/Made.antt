-- Terms of contracts: the scan that makes the certificate of a start, backwards from the newest place, and what it knows of the places read by exact scores.
use Rattle.std.specs.Prelude.{◌≡◌, Bool, cond, ◌&&◌, ◌||◌, List, ◌⊎◌, Option, Some, None, IfSome, IfNone, ℕ, suc, ◌+◌, ◌-◌, ◌*◌, ◌^◌, ◌≤◌, ◌<◌, length, get_or, drop, T, Float}
use Rattle.std.specs.Float.{nan, binary64}
use Rattle.std.specs.Float.Ieee.{fits, lt, le, neg}
use Rattle.floats.specs.Arithmetic.{◌⊕◌, ◌⊖◌}
use Rattle.floats.specs.Binary64.{zero64, two_to20}
use Rattle.floats.specs.Terms.Rounded.{Near, Ranged, pos64, neg64, After, err}
use Rattle.letters.specs.Place.{Place}
use Rattle.search.specs.declared.Certificate.{Certificate}
use Rattle.scans.specs.declared.Params.{Params}
use Rattle.scans.specs.declared.run.Setup.{Setup as RunSetup}
use Rattle.scans.specs.declared.run.Ring.{Ring}
use Rattle.certificates.specs.declared.certify.Reading.{Reading}
use Rattle.certificates.specs.declared.certify.Middle.{Middle}
use Rattle.certificates.specs.declared.certify.Newer.{Newer}
use Rattle.certificates.specs.declared.certify.Older.{Older}
use Rattle.certificates.specs.declared.certify.Attempt.{Attempt}
use Rattle.scans.specs.Setup.{Setup, kmers}
use Rattle.scans.specs.Counts.{cleared}
use Rattle.scans.specs.Terms.Numbers.{setup_of}
use Rattle.scans.specs.Terms.Counted.{Counted}
use Rattle.scans.specs.Terms.Parts.{Ringed}
use Rattle.scans.specs.Terms.Units.{margin, distance, unevenness, gain, loss}
use Rattle.search.specs.Terms.Certified.{loss_ahead, strayed, KeptNumber, LowUnits, Certifiable, Bounds}

abbrev pub larger : Float → Float → Float
larger a b = cond (lt a b) b a

abbrev pub smaller : Float → Float → Float
smaller a b = cond (lt a b) a b

-- 2^-17, what the roundings of a score of 65,535 places come to at most.
abbrev pub rounding : ℕ
rounding = 16384 * unevenness

-- x is at least P - N, but for these.
abbrev pub AtLeast : Float → ℕ → ℕ → Type 0
AtLeast x P N = P + neg64 x ≤ pos64 x + N + rounding

-- s is the sum over the places. Not a field of a type: the sum is a value, and the places are lent.
abbrev pub Summed : Setup → List Place → Float → Type 0
Summed S es s = After (length es) s (gain S es) (length es * pos64 S.score_threshold)

-- A ring of w numbers, tables for which certificates are kept, and a drop limit from 0 to 2^20. Not a field of a type: setup, ring and counts are lent one by one.
pub record Making (p : Params) (ring : List ℕ) (head len : ℕ) (ln f : List Float) (counts_length : ℕ) : Type 0 where
  pub ringed : Ringed ring head len (length ln) (length f) counts_length
  pub ring_is : length ring ≡ p.window_size
  pub counts_are : counts_length ≡ 4 ^ p.kmer
  pub able : Certifiable (setup_of p ln f)
  pub drop_ranged : Ranged 1048576 p.drop_limit

abbrev pub Makes : RunSetup → Ring → ℕ → Type 0
Makes s r counts_length = Making s.params r.queue.now r.head r.len s.ln.now s.f.now counts_length

-- Whether certificates are kept for the numbers and tables.
abbrev pub is_able : Params → List Float → Bool
is_able p ln =
    p.usual
    && (le (get_or ln 1 nan) zero64 && (le distance p.score_threshold && (le zero64 p.drop_limit && le p.drop_limit two_to20)))

-- Whether they are, and a drop limit of 64 bits.
pub record Able (p : Params) (ln : List Float) (r : Bool) : Type 0 where
  pub told : r ≡ is_able p ln
  pub fitting : T (fits binary64 p.drop_limit)

-- ---- The places newer than the start.
abbrev pub none_read : ℕ → Reading
none_read len = record { at = len; s = zero64; high = neg two_to20; far = neg two_to20; near = len; sum = zero64 }

abbrev pub read_of : Reading → ℕ → Float → Float → Float → Bool → Reading
read_of a i v s score near =
    cond near (record { at = i; s = s; high = larger a.high score; far = a.far; near = i; sum = a.sum ⊕ v })
    (record { at = i; s = s; high = larger a.high score; far = larger a.far score; near = a.near; sum = a.sum })

-- At most this many of the newest places are near.
abbrev pub near_most : ℕ
near_most = 48

-- The place at index i is the l-th from the newest where i + l is the window's length.
pub record Reads (S : Setup) (q : List Place) (a : Reading) : Type 0 where
  pub inside : a.at ≤ length q
  pub summed : Summed S (drop a.at q) a.s
  pub near_read : a.at ≤ a.near
  pub near_in : a.near ≤ length q
  pub near_while : length q ≤ a.at + near_most → a.near ≡ a.at
  pub near_sum : Near binary64 a.sum (gain S (drop a.near q)) 0 (err (length q - a.near))
  pub high : (i l : ℕ) → i + l ≡ length q → a.at ≤ i → 0 < l → AtLeast a.high (gain S (drop i q)) (loss S l)
  pub high_kept : KeptNumber 0 a.high
  pub far : (i l : ℕ) → i + l ≡ length q → a.at ≤ i → i < a.near → AtLeast a.far (gain S (drop i q)) (loss S l)
  pub far_kept : KeptNumber 0 a.far

abbrev pub no_middle : ℕ → Middle
no_middle len = record { near = len; h = zero64; u = neg two_to20; peak = neg two_to20 }

-- With one place more; none where no certificate can be made.
abbrev pub middle_of : Middle → Reading → Float → Float → Option Middle
middle_of b a ahead reach =
    cond (le (b.peak ⊖ ahead) reach) (Some (record { near = b.near; h = b.h; u = b.u; peak = larger b.peak ahead }))
    (cond (lt a.high (neg distance)) (Some (record { near = a.near; h = a.sum; u = a.far; peak = neg two_to20 })) None)

-- Of the places from index `from` on: those from `low_from` on are low; the others stay within the drop limit of all newer ones, in scores with the f entries of m places more.
pub record Steady (S : Setup) (q : List Place) (m from : ℕ) (b : Middle) : Type 0 where
  pub low_from : ℕ
  pub from_low : from ≤ low_from
  pub low : LowUnits S q 0 low_from b.near b.h b.u
  pub peak : (i l : ℕ) → i + l ≡ length q → from ≤ i → i < low_from → AtLeast b.peak (gain S (drop i q)) (loss_ahead S m l)
  pub peak_kept : KeptNumber 0 b.peak
  pub steady : (i l : ℕ) → i + l ≡ length q → from ≤ i → (a k : ℕ) → a + k ≡ length q → i < a → a < low_from
      → gain S (drop a q) + loss_ahead S m l + margin * 2 + neg64 S.drop_limit ≤ gain S (drop i q) + loss_ahead S m k + pos64 S.drop_limit

-- The places from r's oldest on are read: all that are newer than the start, or as many as showed that no certificate can be made.
pub record ReadsNewer (S : Setup) (q : List Place) (start m : ℕ) (r : Newer) (counts : List ℕ) : Type 0 where
  pub counted : Counted (kmers S) counts (drop r.reading.at q)
  pub reads : Reads S q r.reading
  pub before : start < r.reading.at
  pub steady : IfSome r.middle (λ b. (r.reading.at ≡ suc start) × Steady S q m (suc start) b)

-- ---- The places older than the start.
abbrev pub older_of : Older → ℕ → Float → Float → Float → Older
older_of a i s above drop_limit =
    let gap : Float = smaller a.gap above in
    record { at = i; s = s; gap = gap; done = lt gap distance || lt (drop_limit ⊕ gap) above }

-- The start at index j scores above the older ones, down to `oldest`, by gap at least; there the scan is at its end or drops.
pub record OlderUnits (S : Setup) (q : List Place) (j oldest : ℕ) (gap : Float) : Type 0 where
  pub older : (i l k : ℕ) → i + l ≡ length q → j + k ≡ length q → oldest ≤ i → i < j → gain S (drop i q) + pos64 gap + loss S k ≤ gain S (drop j q) + neg64 gap + loss S l + strayed 0
  pub ends : (oldest ≡ 0)
      ⊎ ((oldest < j)
      × ((l k : ℕ) → oldest + l ≡ length q → j + k ≡ length q
      → gain S (drop oldest q) + pos64 gap + pos64 S.drop_limit + loss S k ≤ gain S (drop j q) + neg64 gap + neg64 S.drop_limit + loss S l + strayed 0))
  pub gap_kept : KeptNumber 0 gap

pub record ReadsOlder (S : Setup) (q : List Place) (start : ℕ) (r : Older) (counts : List ℕ) : Type 0 where
  pub counted : Counted (kmers S) counts (drop r.at q)
  pub inside : r.at ≤ start
  pub older : T (le distance r.gap) → OlderUnits S q start r.at r.gap

-- ---- The certificate.
-- None where the gap, or the bound u of the low scores, is too near 0.
abbrev pub certificate_of : Middle → ℕ → ℕ → Float → Option Certificate
certificate_of b m len gap = cond (lt b.u (neg distance) && le distance gap) (Some (record { left = m; near = len - b.near; h = b.h; u = b.u; gap = gap })) None

-- The counts are those of the places from r's oldest on; a certificate that is made is one of the start.
pub record Attempts (S : Setup) (q : List Place) (start : ℕ) (r : Attempt) (counts : List ℕ) : Type 0 where
  pub inside : r.at ≤ length q
  pub counted : Counted (kmers S) counts (drop r.at q)
  pub made : IfSome r.certificate (λ c. (r.at ≤ start) × Bounds S q start c)

-- A certificate that is made leaves the counts of the places from the start on; else they are cleared.
pub record Certifies (S : Setup) (q : List Place) (j : ℕ) (c : Option Certificate) (counts : List ℕ) : Type 0 where
  pub made : IfSome c (λ b. Bounds S q j b × Counted (kmers S) counts (drop j q))
  pub none : IfNone c (counts ≡ cleared S)
