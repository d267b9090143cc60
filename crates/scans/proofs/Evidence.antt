-- Tables in range: a stretch whose loss is past its gain by at most (n + w + 4) * 2^-33 is evidence for its letters.
use Rattle.std.proofs.Common.{◌≡◌, sym, subst, ℕ, ◌+◌, ◌*◌, ◌≤◌, ◌<◌, arith, List, length, drop, length-take, length-drop, pos, neg_ℤ, ◌*ℤ◌, ◌≤ℤ◌}
use Rattle.floats.specs.Binary64.{one}
use Rattle.floats.proofs.Whole.{is_neg, is_scaled, is_le}
use Rattle.floats.proofs.Sums.{err_units}
use Rattle.floats.specs.Terms.Rounded.{err}
use Rattle.letters.specs.Place.{Place}
use Rattle.scans.specs.Setup.{Setup}
use Rattle.scans.specs.Score.{score, stretch, Evidence}
use Rattle.scans.proofs.Gain.{InRange, gain, loss, score_is}

module _ (S : Setup) (R : InRange S) where
  -- The score times 2^32 is at least -c.
  score_high : (q : List Place) (c : ℕ) → length q ≤ S.window_size → 0 < length q → loss S (length q) * 4294967296 ≤ gain S q * 4294967296 + c
      → neg_ℤ (pos c) ≤ℤ (score S q *ℤ pos 4294967296)
  score_high q c l some h =
      (is_le (neg_ℤ (pos c)) (score S q *ℤ pos 4294967296) 0 c (gain S q * 4294967296) (loss S (length q) * 4294967296)
      (is_neg (pos c) c 0 (omega arith)) (is_scaled (score S q) 4294967296 (gain S q) (loss S (length q)) (score_is S R q l some))).1 (omega arith)

  pub evidence : (ps : List Place) (first size x : ℕ) → 0 < size → size ≤ S.window_size → first + size ≤ length ps → first + 1 ≤ x + S.kmer → x < first + size
      → loss S size ≤ gain S (stretch ps first size) + err (length ps + S.window_size + 4) → Evidence S ps x
  evidence ps first size x some short within from to l =
      let q : List Place = stretch ps first size in
      let c : ℕ = length ps + S.window_size + 4 in
      let lq : length q ≡ size = omega (arith, length-take size (drop first ps), length-drop first ps) in
      record {
        first = first;
        size = size;
        nonempty = some;
        short = short;
        within = within;
        from = from;
        to = to;
        high = score_high q (c * one) (omega arith) (omega arith) (subst (λ (z : ℕ). loss S z * 4294967296 ≤ gain S q * 4294967296 + c * one) (sym lq) (weigh (loss S size) (gain S q) c l (err_units c)));
      }
    where
      weigh : (L G c : ℕ) → L ≤ G + err c → err c * 8589934592 ≡ c * one → L * 4294967296 ≤ G * 4294967296 + c * one
      weigh L G c a b = omega arith
