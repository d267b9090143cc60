-- How much a search can miss: each place left unread adds the largest ln entry to a score, at most, and takes T away.
use Rattle.std.proofs.Common.{◌≡◌, refl, ap, ap₂, ◌∙◌, subst, List, ◌≢◌, ℕ, zero, suc, ◌+◌, ◌-◌, ◌*◌, ◌^◌, ◌≤◌, ◌<◌, min, mul-le-mul_left, mul-le-mul_right, mul-add, add-mul, arith, length, get_or, ℤ, pos, ◌+ℤ◌, ◌-ℤ◌, ◌≤ℤ◌}
use borrow.Author.Tests.{ne_eqb}
use Rattle.floats.proofs.Whole.{Is, is_as, is_add, is_sub, is_le}
use Rattle.letters.specs.Code.{codes}
use Rattle.letters.specs.Place.{Place, ambiguous, plain}
use Rattle.letters.proofs.Codes.{codes_length}
use Rattle.letters.proofs.Places.{place_below}
use Rattle.scans.specs.Counts.{count}
use Rattle.scans.specs.Score.{ln_sums}
use Rattle.scans.proofs.Counting.{count_le}
use Rattle.scans.proofs.Exact.{adds, sums_none, sums_cons}
use Rattle.strongest.specs.Strongest.{Asked, available, steps, unread, up_to, entry, without_f, score_of, score_at, best_score, largest, gap_over, gap}
use Rattle.strongest.specs.Terms.Reading.{back, back_to}
use Rattle.strongest.proofs.Order.{up, down, parts, is_pos, difference_is, excess_is}
use Rattle.strongest.proofs.Largest.{largest_at}
use Rattle.strongest.proofs.Backward.{part, back_length, back_stretch}
use Rattle.strongest.proofs.Reading.{score_is}

-- ---- What the last l places of a strand gain.
module _ (k : ℕ) (ln cs : List ℕ) where
  abbrev added : List Place → Place → ℕ
  added q ambiguous = 0
  added q (plain x) = get_or ln (suc (count x q)) 0

  abbrev gained : ℕ → ℕ
  gained zero = 0
  gained (suc l) = gained l + added (back_to k cs l) (back k cs l)

  adds_added : (q : List Place) (e : Place) → adds (entry ln) q e ≡ pos (added q e)
  adds_added q ambiguous = refl
  adds_added q (plain x) = refl

  pub gains : (l : ℕ) → ln_sums (entry ln) (4 ^ k) (back_to k cs l) ≡ pos (gained l)
  unfolding back_to
  gains zero = sums_none (entry ln) (4 ^ k)
  gains (suc l) =
      let e : Place = back k cs l in
      sums_cons (entry ln) (4 ^ k) (back_to k cs l) e (place_below k cs (length cs - 1 - l))
      ∙ ap₂ (λ (x y : ℤ). x +ℤ y) (gains l) (adds_added (back_to k cs l) e)

  added_small : (w l : ℕ) (e : Place) → l < w → added (back_to k cs l) e ≤ largest ln w
  added_small w l ambiguous h = omega arith
  added_small w l (plain x) h =
      let q : List Place = back_to k cs l in
      largest_at ln w (suc (count x q)) (omega arith) (omega (arith, count_le x q, back_length k cs l))

  -- d places more.
  climb : (w l d m : ℕ) → m ≡ l + d → m ≤ w → gained m ≤ gained l + d * largest ln w
  climb w l zero m e h = omega (arith, ap (λ (n : ℕ). gained n) (let q : m ≡ l = omega arith in q))
  climb w l (suc d) zero e h = absurd (let z : ⊥ = omega arith in z)
  climb w l (suc d) (suc m) e h = omega (arith, climb w l d m (omega arith) (omega arith), added_small w m (back k cs m) (omega arith))

-- ---- In naturals: m places score no more than the best, a - b, and the gap.
bounded : (G Gm M t r l d m a b v : ℕ) → m ≡ l + d → Gm ≤ G + d * M → d ≤ r
    → Gm + b ≤ a + (G + r * (M - t) + b - (l * t + a)) + (m * t + v)
bounded G Gm M t r l d m a b v e h k =
    let p : ℕ = M - t in
    let e1 : d * M ≤ d * (t + p) = mul-le-mul_left d (omega arith) in
    let e2 : d * (t + p) ≡ d * t + d * p = mul-add d t p in
    let e3 : d * p ≤ r * p = mul-le-mul_right p k in
    let e4 : m * t ≡ l * t + d * t = ap (λ (n : ℕ). n * t) e ∙ add-mul l d t in
    omega arith

module _ (Q : Asked) (inside : Q.place < length Q.sequence) (some : 0 < Q.kmer) where
  abbrev k : ℕ
  k = Q.kmer

  abbrev end : ℕ
  end = Q.place + 1

  -- The letters up to place b.
  abbrev cs : List ℕ
  cs = part (codes Q.sequence) 0 end

  abbrev G : ℕ → ℕ
  G = gained k Q.ln cs

  up_back : (l : ℕ) → l ≤ end → back_to k cs l ≡ up_to Q l
  up_back l h =
      back_stretch k (codes Q.sequence) Q.place end end 0 (omega (arith, codes_length Q.sequence)) some (omega arith)
      (let e : end ≡ min (end + k - 1) (Q.place + 1) = omega arith in e) (omega arith) l h

  at_is : (l : ℕ) → l ≤ end → Is (score_at Q l) (G l) (l * Q.threshold + get_or Q.f l 0)
  unfolding score_at
  at_is l h =
      subst (λ (q : List Place). Is (score_of k Q.threshold Q.ln Q.f q) (G l) (l * Q.threshold + get_or Q.f l 0)) (up_back l h)
      (score_is k Q.threshold Q.ln Q.f cs l (G l) (gains k Q.ln cs l))

  open_is : (l : ℕ) → l ≤ end → Is (without_f k Q.threshold Q.ln (up_to Q l)) (G l) (l * Q.threshold)
  open_is l h =
      subst (λ (q : List Place). Is (without_f k Q.threshold Q.ln q) (G l) (l * Q.threshold)) (up_back l h)
      (rw (gains k Q.ln cs l, back_length k cs l) (difference_is (G l) (l * Q.threshold)))

  gap_is : unread Q ≢ 0 → gap Q ≡ G (steps Q) + unread Q * (largest Q.ln Q.window_size - Q.threshold) + down (best_score Q) - (steps Q * Q.threshold + up (best_score Q))
  unfolding gap_over
  gap_is h =
      let t : ℕ = Q.threshold in
      let l : ℕ = steps Q in
      let more : ℕ = unread Q * (largest Q.ln Q.window_size - t) in
      let x : ℤ = without_f k t Q.ln (up_to Q l) in
      let b : ℤ = best_score Q in
      rw (ne_eqb (unread Q) 0 h)
      (excess_is (x +ℤ pos more -ℤ b) (G l + more + down b) (l * t + up b)
      (is_as (x +ℤ pos more -ℤ b) (G l + more + down b) (l * t + 0 + up b) (G l + more + down b) (l * t + up b) (omega arith)
      (is_sub (x +ℤ pos more) b (G l + more) (l * t + 0) (up b) (down b) (is_add x (pos more) (G l) (l * t) more 0 (open_is l (omega arith)) (is_pos more)) (parts b))))

  -- No unread start beats the best by more than the gap.
  pub unread_within_gap : (m : ℕ) → steps Q < m → m ≤ available Q → score_at Q m ≤ℤ (best_score Q +ℤ pos (gap Q))
  unread_within_gap m h a =
      let b : ℤ = best_score Q in
      let d : ℕ = m - steps Q in
      let same : m ≡ steps Q + d = omega arith in
      let g = gap_is (let n : unread Q ≢ 0 = omega arith in n) in
      let c = climb k Q.ln cs Q.window_size (steps Q) d m same (omega arith) in
      let n = bounded (G (steps Q)) (G m) (largest Q.ln Q.window_size) Q.threshold (unread Q) (steps Q) d m (up b) (down b) (get_or Q.f m 0) same c (omega arith) in
      (is_le (score_at Q m) (b +ℤ pos (gap Q)) (G m) (m * Q.threshold + get_or Q.f m 0) (up b + gap Q) (down b + 0)
      (at_is m (omega arith)) (is_add b (pos (gap Q)) (up b) (down b) (gap Q) 0 (parts b) (is_pos (gap Q)))).1
      (rw g (omega (arith, n)))
