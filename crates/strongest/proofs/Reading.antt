-- What a search knows after l places, and after one more.
use Rattle.std.proofs.Common.{◌≡◌, refl, sym, ap, ◌∙◌, subst, Bool, true, false, cond, ◌||◌, List, ℕ, zero, suc, ◌+◌, ◌*◌, ◌^◌, ◌≤◌, ◌<◌, mul-le-mul, arith, leb, eqb, get_or, ℤ, pos, ◌+ℤ◌, ◌-ℤ◌, ◌*ℤ◌}
use lib.Signed.{le_z}
use borrow.Author.Tests.{eqb-true, eqb-false}
use Rattle.floats.proofs.Whole.{Is, is_as, is_sub, le_is}
use Rattle.scans.specs.Score.{ln_sums}
use Rattle.scans.proofs.Exact.{sums_none}
use Rattle.strongest.specs.declared.scores.Reading.{Reading}
use Rattle.strongest.specs.Strongest.{entry, best_of}
use Rattle.strongest.specs.Terms.Reading.{back_to, scores_back, nothing, judged, Reads}
use Rattle.strongest.proofs.Order.{is_pos, difference_is, is_same}
use Rattle.strongest.proofs.Best.{best_one, best_new, best_old}
use Rattle.strongest.proofs.Backward.{back_length}

-- T, or an ln entry, for each of l places.
pub product_small : (l t : ℕ) → l ≤ 65535 → t < 68719476736 → l * t ≤ 4503530907893760
product_small l t h k =
    let p : l * t ≤ 65535 * 68719476736 = mul-le-mul h (let q : t ≤ 68719476736 = omega arith in q) in
    omega arith

module _ (k t : ℕ) (ln f cs : List ℕ) where
  abbrev s : ℕ → ℤ
  s = scores_back k t ln f cs

  -- The score of l places that gain g.
  pub score_is : (l g : ℕ) → ln_sums (entry ln) (4 ^ k) (back_to k cs l) ≡ pos g → Is (s l) g (l * t + get_or f l 0)
  score_is l g e =
      rw (e, back_length k cs l)
      (let z : ℤ = pos g -ℤ pos l *ℤ pos t in
      is_as (z -ℤ pos (get_or f l 0)) (g + 0) (l * t + get_or f l 0) g (l * t + get_or f l 0) (omega arith)
      (is_sub z (pos (get_or f l 0)) g (l * t) (get_or f l 0) 0 (difference_is g (l * t)) (is_pos (get_or f l 0))))

  pub reads_none : Reads k t ln f cs 0 nothing
  unfolding back_to
  reads_none =
      record {
        gain = sums_none (entry ln) (4 ^ k);
        size = λ h. absurd (let z : ⊥ = omega arith in z);
        best = λ h. absurd (let z : ⊥ = omega arith in z);
        gain_small = omega arith;
        best_small = omega arith;
        loss_small = omega arith;
      }

  module _ (l v loss : ℕ) (r : Reading) (R : Reads k t ln f cs l r)
      (more : ln_sums (entry ln) (4 ^ k) (back_to k cs (suc l)) ≡ ln_sums (entry ln) (4 ^ k) (back_to k cs l) +ℤ pos v)
      (v_small : v ≤ 68719476736) (loss_is : loss ≡ suc l * t + get_or f (suc l) 0) (small : loss < 9007199254740992) where
    abbrev g : ℕ
    g = r.gain + v

    gains : ln_sums (entry ln) (4 ^ k) (back_to k cs (suc l)) ≡ pos g
    gains = more ∙ ap (λ (z : ℤ). z +ℤ pos v) R.gain

    new_is : Is (s (suc l)) g loss
    new_is = rw loss_is (score_is (suc l) g gains)

    abbrev taken : Reading
    taken = record { gain = g; best = record { size = suc l; gain = g; loss = loss } }

    abbrev kept : Reading
    kept = record { gain = g; best = r.best }

    reads_taken : suc l ≡ best_of s (suc l) → Reads k t ln f cs (suc l) taken
    reads_taken e =
        let a = R.gain_small in
        record {
          gain = gains;
          size = λ h. e;
          best = λ h. is_same (s (suc l)) (pos g -ℤ pos loss) g loss new_is (difference_is g loss);
          gain_small = omega arith;
          best_small = omega arith;
          loss_small = small;
        }

    reads_kept : 0 < l → r.best.size ≡ best_of s (suc l) → Reads k t ln f cs (suc l) kept
    reads_kept h e =
        let a = R.gain_small in
        let b = R.best_small in
        record {
          gain = gains;
          size = λ h. e;
          best = λ _. R.best h;
          gain_small = omega arith;
          best_small = omega arith;
          loss_small = R.loss_small;
        }

    later : eqb (suc l) 1 ≡ false → 0 < l
    later e = go l (eqb-false (suc l) 1 e)
      where
        go : (n : ℕ) → (suc n ≡ 1 → ⊥) → 0 < n
        go zero h = absurd (h refl)
        go (suc n) h = omega arith

    -- The comparison of sums of naturals is that of the scores.
    tests : 0 < l → leb (r.best.gain + loss) (g + r.best.loss) ≡ le_z (s (best_of s l)) (s (suc l))
    tests h =
        let old : Is (s (best_of s l)) r.best.gain r.best.loss =
        subst (λ (z : ℤ). Is z r.best.gain r.best.loss) (sym (R.best h) ∙ ap s (R.size h)) (difference_is r.best.gain r.best.loss) in
        sym (le_is (s (best_of s l)) (s (suc l)) r.best.gain r.best.loss g loss old new_is)

    by : (b c : Bool) → eqb (suc l) 1 ≡ b → leb (r.best.gain + loss) (g + r.best.loss) ≡ c → Reads k t ln f cs (suc l) (cond (b || c) taken kept)
    by true c e d =
        let none : l ≡ 0 = omega (arith, eqb-true (suc l) 1 e) in
        reads_taken (subst (λ (n : ℕ). suc n ≡ best_of s (suc n)) (sym none) (sym (best_one s)))
    by false true e d =
        let some : 0 < l = later e in
        reads_taken (sym (best_new s l (sym (tests some) ∙ d)))
    by false false e d =
        let some : 0 < l = later e in
        reads_kept some (R.size some ∙ sym (best_old s l (sym (tests some) ∙ d)))

    next : Reads k t ln f cs (suc l) (judged r (suc l) v loss)
    unfolding judged
    next = by (eqb (suc l) 1) (leb (r.best.gain + loss) (g + r.best.loss)) refl refl

  pub reads_more : (l n v loss : ℕ) (r : Reading) → n ≡ l + 1 → Reads k t ln f cs l r
      → ln_sums (entry ln) (4 ^ k) (back_to k cs (suc l)) ≡ ln_sums (entry ln) (4 ^ k) (back_to k cs l) +ℤ pos v
      → v ≤ 68719476736 → loss ≡ n * t + get_or f n 0 → loss < 9007199254740992 → Reads k t ln f cs n (judged r n v loss)
  reads_more l n v loss r e R more small is below =
      let same : n ≡ suc l = omega arith in
      subst (λ (m : ℕ). Reads k t ln f cs m (judged r m v loss)) (sym same) (next l v loss r R more small (is ∙ ap (λ (m : ℕ). m * t + get_or f m 0) same) below)

-- The laws by which `read_back` is proved.
pub ruleset reads = (product_small, reads_none, reads_more)
