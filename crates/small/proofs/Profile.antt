-- What a request inside the profile has: the masking calls accept it in buffers of the listed sizes or more, so in the work space, and its output has room.
use Rattle.std.proofs.Common.{◌≡◌, refl, Bool, false, cond, true≢false, List, ℕ, ◌+◌, ◌*◌, ◌^◌, ◌≤◌, ◌<◌, div-lt_iff_lt-mul, arith, ltb, length, get_or}
use native.Mathlib.Nat.{pow-le-pow_right}
use borrow.Author.Tests.{le-ltb, ltb-false}
use Rattle.checks.specs.Checks.{check}
use Rattle.checks.specs.Tests.{most_intervals}
use Rattle.scans.proofs.Test.{neither}
use Rattle.tables.specs.declared.GcOption.{GcOption}
use Rattle.tables.specs.declared.GcOption.TheVariants.{Uniform, Fixed, Auto}
use Rattle.longdust.specs.declared.LongdustOptions.{LongdustOptions}
use Rattle.longdust.specs.declared.Lent.{Lent}
use Rattle.longdust.specs.Checks.{gc_bad, too_short_of}
use Rattle.longdust.specs.Checks.{refusal as call_refusal}
use Rattle.longdust.specs.Terms.Inner.{Bounds, Enough}
use Rattle.longdust.proofs.Accept.{admitted}
use Rattle.small.specs.Profile.{not_uniform, outside, checks, refusal}
use Rattle.small.specs.Run.{lent, Asked}
use Rattle.checks.proofs.Passing.{passes}

uniform_passes : (gc : GcOption) → not_uniform gc ≡ false → gc_bad gc ≡ false
unfolding not_uniform gc_bad
uniform_passes Uniform e = refl
uniform_passes (Fixed x) e = absurd (true≢false e)
uniform_passes Auto e = refl

few_kmers : (k : ℕ) → k ≤ 6 → 4 ^ k ≤ 4096
few_kmers k h = pow-le-pow_right {n = 4} (omega arith) {i = k} {j = 6} h

few_intervals : (n k : ℕ) → n ≤ 4096 → 1 ≤ k → most_intervals n k ≤ 2048
few_intervals n k h l =
    let lt : most_intervals n k < 2049 = (div-lt_iff_lt-mul {k = k + 1} {x = n + 1} {y = 2049} (omega arith)).1 (omega arith) in
    omega arith

-- The work space is as long as listed.
pub long_enough : (n k w : ℕ) → n ≤ 4096 → 1 ≤ k → k ≤ 6 → w ≤ 4096 → too_short_of n k w lent ≡ false
unfolding too_short_of
long_enough n k w hn lk hk hw =
    let r = le-ltb 2048 (most_intervals n k) (few_intervals n k hn lk) in
    let q = le-ltb 4096 (4 ^ k) (few_kmers k hk) in
    let n_fits = le-ltb 4096 n hn in
    rw (le-ltb 4097 (w + 1) (omega arith), le-ltb 4098 (w + 2) (omega arith), le-ltb 4096 w hw, q, n_fits, r)

-- The twelve checks of the masking calls, each passed.
no_refusal : {c1 c2 c13 c3 c4 c5 c6 c7 c8 c9 c10 c11 : Bool} → c1 ≡ false → c2 ≡ false → c13 ≡ false → c3 ≡ false → c4 ≡ false → c5 ≡ false → c6 ≡ false
    → c7 ≡ false → c8 ≡ false → c9 ≡ false → c10 ≡ false → c11 ≡ false
    → ◌≡◌ {A = ℕ} (cond c1 1 (cond c2 2 (cond c13 13 (cond c3 3 (cond c4 4 (cond c5 5 (cond c6 6 (cond c7 7 (cond c8 8 (cond c9 9 (cond c10 10 (cond c11 11 0)))))))))))) 0
no_refusal p1 p2 p13 p3 p4 p5 p6 p7 p8 p9 p10 p11 = rw (p1, p2, p13, p3, p4, p5, p6, p7, p8, p9, p10, p11)

module _ (o : LongdustOptions) (s : List ℕ) (room : ℕ) (e : refusal o s room ≡ 0) where
  passed : (j : ℕ) → (get_or (checks o s room) j (check 0 false)).fails ≡ false
  passed j = passes (checks o s room) refl e j

  inside : (o.kmer ≤ 6) × (o.window_size ≤ 4096) × (length s ≤ 4096) × (not_uniform o.gc ≡ false)
  unfolding outside
  inside =
      let g = neither _ (not_uniform o.gc) (passed 9) in
      let n = neither _ (ltb 4096 (length s)) g.0 in
      let w = neither (ltb 6 o.kmer) (ltb 4096 o.window_size) n.0 in
      (ltb-false 6 o.kmer w.0, ltb-false 4096 o.window_size w.1, ltb-false 4096 (length s) n.1, g.1)

  pub kmer_some : 1 ≤ o.kmer
  kmer_some = ltb-false o.kmer 1 (neither (ltb o.kmer 1) (ltb 12 o.kmer) (passed 0)).0

  -- The masking calls accept the request in buffers that are at least as long as listed.
  pub call_accepts : (b : Lent) → too_short_of (length s) o.kmer o.window_size b ≡ false → call_refusal o s b ≡ 0
  call_accepts b enough =
      no_refusal
      (passed 0)
      (passed 1)
      (passed 2)
      (passed 3)
      (passed 4)
      (passed 5)
      (passed 6)
      (uniform_passes o.gc inside.3)
      (passed 7)
      (passed 8)
      (le-ltb 2147483647 (length s) (omega (arith, inside.2)))
      enough

  pub asked : Asked o s
  asked = record { accepted = call_accepts lent (long_enough (length s) o.kmer o.window_size inside.2 kmer_some inside.0 inside.1); gc = inside.3 }

  pub list_room_lem : most_intervals (length s) o.kmer ≤ 2048
  list_room_lem = few_intervals (length s) o.kmer inside.2 kmer_some

  pub output_room : 8 * most_intervals (length s) o.kmer ≤ room
  output_room = ltb-false room (8 * most_intervals (length s) o.kmer) (passed 10)

-- What is known of a request that the masking calls accept in the work space.
module _ {o : LongdustOptions} {s : List ℕ} (a : Asked o s) where
  bounds : Bounds o
  bounds = (admitted o s lent a.accepted).bounds

  enough : Enough (length s) o.kmer o.window_size lent
  enough = (admitted o s lent a.accepted).enough

  pub kmer_fits : o.kmer ≤ 12
  kmer_fits = bounds.kmer_high

  pub kmers_fit : 4 ^ o.kmer ≤ 4096
  kmers_fit = enough.window_counts

  pub window_fits : o.window_size ≤ 4096
  window_fits = enough.queue

  pub window_some : 0 < o.window_size
  window_some = omega (arith, bounds.window_low)

  pub letters_fit : length s ≤ 4096
  letters_fit = enough.codes

  pub twice : 2 ≤ o.min_start_cnt
  twice = bounds.start_low
