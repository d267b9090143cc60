-- What a request has that no check refuses.
use Rattle.std.proofs.Common.{◌≡◌, refl, ℕ, zero, suc, ◌+◌, ◌^◌, ◌≤◌, ◌<◌, arith, ltb, leb, length}
use borrow.Author.Tests.{ltb-true, ltb-false, leb-false, eqb-false, not-false}
use Rattle.checks.proofs.Passing.{passes}
use Rattle.scans.proofs.Test.{neither}
use Rattle.strongest.specs.Strongest.{Asked, largest}
use Rattle.strongest.specs.Checks.{too_short_of, too_wide, checks, refusal}

pub record Admitted (Q : Asked) (codes_len counts_len : ℕ) : Type 0 where
  pub kmer_low : 1 ≤ Q.kmer
  pub kmer_high : Q.kmer ≤ 12
  pub window_low : Q.kmer + 1 ≤ Q.window_size
  pub window_high : Q.window_size ≤ 65535
  pub letters_high : length Q.sequence ≤ 2147483647
  pub ln_long : Q.window_size + 1 ≤ length Q.ln
  pub f_long : Q.window_size + 2 ≤ length Q.f
  pub codes_long : length Q.sequence ≤ codes_len
  pub counts_long : 4 ^ Q.kmer ≤ counts_len
  pub budget_some : 0 < Q.budget
  pub inside : Q.place < length Q.sequence
  pub threshold_small : Q.threshold < 68719476736
  pub ln_small : largest Q.ln Q.window_size < 68719476736
  pub f_small : largest Q.f Q.window_size < 4503599627370496

pub admitted : (Q : Asked) (codes_len counts_len : ℕ) → refusal Q codes_len counts_len ≡ 0 → Admitted Q codes_len counts_len
unfolding too_short_of too_wide
admitted Q codes_len counts_len e =
    let n = length Q.sequence in
    let k = Q.kmer in
    let w = Q.window_size in
    let passed = passes (checks Q codes_len counts_len) refl e in
    let inside = neither (ltb k 1) (ltb 12 k) (passed 0) in
    let p3 = neither _ (ltb counts_len (4 ^ k)) (passed 7) in
    let p2 = neither _ (ltb codes_len n) p3.0 in
    let p1 = neither (ltb (length Q.ln) (w + 1)) (ltb (length Q.f) (w + 2)) p2.0 in
    let q2 = neither _ (leb (2 ^ 52) (largest Q.f w)) (passed 10) in
    let q1 = neither (leb (2 ^ 36) Q.threshold) (leb (2 ^ 36) (largest Q.ln w)) q2.0 in
    record {
      kmer_low = ltb-false k 1 inside.0;
      kmer_high = ltb-false 12 k inside.1;
      window_low = ltb-false w (k + 1) (passed 4);
      window_high = ltb-false 65535 w (passed 5);
      letters_high = ltb-false 2147483647 n (passed 6);
      ln_long = ltb-false (length Q.ln) (w + 1) p1.0;
      f_long = ltb-false (length Q.f) (w + 2) p1.1;
      codes_long = ltb-false codes_len n p2.1;
      counts_long = ltb-false counts_len (4 ^ k) p3.1;
      budget_some = some Q.budget (eqb-false Q.budget 0 (passed 8));
      inside = ltb-true Q.place n (not-false (ltb Q.place n) (passed 9));
      threshold_small = leb-false (2 ^ 36) Q.threshold q1.0;
      ln_small = leb-false (2 ^ 36) (largest Q.ln w) q1.1;
      f_small = leb-false (2 ^ 52) (largest Q.f w) q2.1;
    }
  where
    some : (b : ℕ) → (b ≡ 0 → ⊥) → 0 < b
    some zero h = absurd (h refl)
    some (suc b) h = omega arith
