-- The count of `lines_length` as its loop makes it, and that it counts no more bytes than there are.
use Rattle.std.proofs.Common.{ℕ, suc, ◌+◌, ◌≤◌, ◌<◌, ◌≡◌, refl, Bool, true, false, cond, ◌&&◌, List, [], ◌∷◌, add-one, arith, eqb, length, drop, get_or, drop_of_length-le, drop-cons}
use Rattle.fasta.specs.Terms.Lengths.{lines_length}

module _ (s : List ℕ) (i t : ℕ) (fresh : Bool) (left : i + lines_length fresh (drop i s) ≡ t) where
  pub lines_on : i < length s → (fresh && eqb (get_or s i 0) 62) ≡ false → i + 1 + lines_length (eqb (get_or s i 0) 10) (drop (i + 1) s) ≡ t
  unfolding lines_length
  lines_on h e =
      let d : lines_length fresh (drop i s) ≡ suc (lines_length (eqb (get_or s i 0) 10) (drop (i + 1) s)) =
      rw (drop-cons s i 0 h, e, add-one i) refl in
      omega arith

  pub lines_stop : i < length s → (fresh && eqb (get_or s i 0) 62) ≡ true → i ≡ t
  unfolding lines_length
  lines_stop h e =
      let d : lines_length fresh (drop i s) ≡ 0 = rw (drop-cons s i 0 h, e) refl in
      omega arith

  pub lines_end : i ≤ length s → length s ≤ i → length s ≡ t
  unfolding lines_length
  lines_end h k =
      let d : lines_length fresh (drop i s) ≡ 0 = rw (drop_of_length-le s k) refl in
      omega arith

within : (t : Bool) (x y n : ℕ) → x ≤ n → y ≤ n → cond t x y ≤ n
within true x y n h k = h
within false x y n h k = k

pub lines_within : (fresh : Bool) (bs : List ℕ) → lines_length fresh bs ≤ length bs
unfolding lines_length
lines_within fresh [] = omega arith
lines_within fresh (b ∷ bs) =
    let h = lines_within (eqb b 10) bs in
    within (fresh && eqb b 62) 0 (suc (lines_length (eqb b 10) bs)) (suc (length bs)) (omega arith) (omega arith)

-- The laws by which `lines_length` is proved.
pub ruleset of_lines = (lines_on, lines_stop, lines_end)
