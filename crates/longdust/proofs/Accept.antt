-- What a request has that no check refuses.
use Rattle.std.proofs.Common.{◌≡◌, refl, Bool, false, List, ℕ, ◌+◌, ◌^◌, ◌≤◌, ltb, length, get_or}
use borrow.Author.Tests.{ltb-false}
use Rattle.scans.proofs.Test.{neither}
use Rattle.longdust.specs.declared.LongdustOptions.{LongdustOptions}
use Rattle.longdust.specs.declared.Lent.{Lent}
use Rattle.checks.specs.Checks.{check, first}
use Rattle.checks.proofs.Passing.{passes}
use Rattle.checks.specs.Tests.{most_intervals}
use Rattle.longdust.specs.Checks.{request_checks, refusal, too_short_of}
use Rattle.longdust.specs.Terms.Inner.{Bounds, Enough, Admitted}

enough : (n k w : ℕ) (b : Lent) → too_short_of n k w b ≡ false → Enough n k w b
unfolding too_short_of
enough n k w b e =
    let R = most_intervals n k in
    let p12 = neither _ (ltb b.marks R) e in
    let p11 = neither _ (ltb b.list R) p12.0 in
    let p10 = neither _ (ltb b.reverse_list R) p11.0 in
    let p9 = neither _ (ltb b.forward_list R) p10.0 in
    let p8 = neither _ (ltb b.reverse_codes n) p9.0 in
    let p7 = neither _ (ltb b.codes n) p8.0 in
    let p6 = neither _ (ltb b.candidates w) p7.0 in
    let p5 = neither _ (ltb b.scan_counts (4 ^ k)) p6.0 in
    let p4 = neither _ (ltb b.window_counts (4 ^ k)) p5.0 in
    let p3 = neither _ (ltb b.queue w) p4.0 in
    let p2 = neither (ltb b.ln (w + 1)) (ltb b.f (w + 2)) p3.0 in
    record {
      ln = ltb-false b.ln (w + 1) p2.0;
      f = ltb-false b.f (w + 2) p2.1;
      queue = ltb-false b.queue w p3.1;
      window_counts = ltb-false b.window_counts (4 ^ k) p4.1;
      scan_counts = ltb-false b.scan_counts (4 ^ k) p5.1;
      candidates = ltb-false b.candidates w p6.1;
      codes = ltb-false b.codes n p7.1;
      reverse_codes = ltb-false b.reverse_codes n p8.1;
      forward_list = ltb-false b.forward_list R p9.1;
      reverse_list = ltb-false b.reverse_list R p10.1;
      list = ltb-false b.list R p11.1;
      marks = ltb-false b.marks R p12.1;
    }

-- What a request brings along whose buffers are long enough, as `too_short` says.
pub record Requested (o : LongdustOptions) (n : ℕ) (too_short : Bool) : Type 0 where
  pub bounds : Bounds o
  pub letters_low : o.kmer + 1 ≤ n
  pub letters_high : n ≤ 2147483647
  pub long : too_short ≡ false

pub requested : (o : LongdustOptions) (s : List ℕ) (too_short : Bool) → first (request_checks o s too_short) ≡ 0 → Requested o (length s) too_short
requested o s too_short e =
    let n = length s in
    let k = o.kmer in
    let w = o.window_size in
    let p : (j : ℕ) → (get_or (request_checks o s too_short) j (check 0 false)).fails ≡ false = passes (request_checks o s too_short) refl e in
    let inside = neither (ltb k 1) (ltb 12 k) (p 0) in
    record {
      bounds =
          record {
            kmer_low = ltb-false k 1 inside.0;
            kmer_high = ltb-false 12 k inside.1;
            window_low = ltb-false w (k + 1) (p 4);
            window_high = ltb-false 65535 w (p 5);
            threshold_good = p 6;
            start_low = ltb-false o.min_start_cnt 2 (p 8);
          };
      letters_low = ltb-false n (k + 1) (p 3);
      letters_high = ltb-false 2147483647 n (p 10);
      long = p 11;
    }

pub admitted : (o : LongdustOptions) (s : List ℕ) (b : Lent) → refusal o s b ≡ 0 → Admitted o (length s) b
admitted o s b e =
    let q = requested o s (too_short_of (length s) o.kmer o.window_size b) e in
    record {
      bounds = q.bounds;
      letters_low = q.letters_low;
      letters_high = q.letters_high;
      enough = enough (length s) o.kmer o.window_size b q.long;
    }
