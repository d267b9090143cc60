-- Letters counted one after the other.
use Rattle.std.proofs.Common.{◌≡◌, ℕ, ◌+◌, ◌-◌, ◌*◌, ◌<◌, ◌≤◌, min, Bool, true, false, cond, List, take, drop, take_all, length, get_or, refl, sym, ap, ap₂, ◌∙◌, ⊎_elim, add-one, arith}
use mir.Val.{bool_byte}
use Rattle.std.specs.List.{count_by}
use Rattle.std.proofs.lemmas.List.{length-drop}
use Rattle.std.proofs.lemmas.List.Sums.{count_by_more_yes, count_by_more_no, sum_by-append}
use Rattle.std.proofs.Math.Seq.{take-add}
use Rattle.intervals.proofs.Order.{lt_or_le}
use Rattle.intervals.specs.declared.Interval.{Interval}
use Rattle.intervals.specs.Interval.{interval}
use Rattle.entries.specs.Sums.{plus}
use Rattle.forms.specs.Counts.{n_count, letters_in, n_upto}

module _ (p : ℕ → Bool) (s : List ℕ) (i d : ℕ) (h : i < length s) where
  by_test : (b : Bool) → p (get_or s i d) ≡ b → count_by p (take (i + 1) s) ≡ count_by p (take i s) + bool_byte b
  by_test true e = count_by_more_yes p s i d h e
  by_test false e = count_by_more_no p s i d h e ∙ (let z : count_by p (take i s) ≡ count_by p (take i s) + 0 = omega arith in z)

  pub count_more : (n : ℕ) (b : Bool) → n ≡ count_by p (take i s) → b ≡ p (get_or s i d) → n + bool_byte b ≡ count_by p (take (i + 1) s)
  count_more n b e q = rw (e, by_test b (rw q refl)) refl

-- Blocks of 224 letters, the last one shorter.
module _ (p : ℕ → Bool) (s : List ℕ) (k end : ℕ) (h : 224 * k ≤ length s) (e : end ≡ min (224 * k + 224) (length s)) where
  block_is : take (end - 224 * k) (drop (224 * k) s) ≡ take 224 (drop (224 * k) s)
  block_is =
      ⊎_elim
      (λ (more : 224 * k + 224 < length s). ap (λ (n : ℕ). take n (drop (224 * k) s)) (let z : end - 224 * k ≡ 224 = omega arith in z))
      (λ (all : length s ≤ 224 * k + 224).
      take_all (end - 224 * k) (drop (224 * k) s) (omega (arith, length-drop (224 * k) s))
      ∙ sym (take_all 224 (drop (224 * k) s) (omega (arith, length-drop (224 * k) s))))
      (lt_or_le (224 * k + 224) (length s))

  pub count_block : (n m : ℕ) → n ≡ count_by p (take (224 * k) s) → m ≡ count_by p (take (end - 224 * k) (drop (224 * k) s)) → n + m ≡ count_by p (take (224 * (k + 1)) s)
  count_block n m a b =
      ap₂ (λ (x y : ℕ). x + y) a (b ∙ ap (count_by p) block_is)
      ∙ sym (sum_by-append (λ (b : ℕ). cond (p b) 1 0) (take (224 * k) s) (take 224 (drop (224 * k) s)))
      ∙ ap (count_by p) (sym (take-add (224 * k) 224 s))
      ∙ ap (λ (j : ℕ). count_by p (take j s)) (let z : 224 * k + 224 ≡ 224 * (k + 1) = omega arith in z)

pub n_none : (s : List ℕ) (is : List Interval) → 0 ≡ n_upto s is 0
unfolding n_upto
n_none s is = refl

pub n_more : (s : List ℕ) (is : List Interval) (k n m : ℕ) → n ≡ n_upto s is k → m ≡ n_count (letters_in s (get_or is k (interval 0 0))) → plus n m ≡ n_upto s is (k + 1)
unfolding n_upto
n_more s is k n m e q = rw (add-one k, e, q) refl
