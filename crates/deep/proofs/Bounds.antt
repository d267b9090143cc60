-- A block's cells read from the last back: their sum, and its bound (`read_on`, `read_all`); a block written anew (`rewritten`).
use Rattle.std.proofs.Common.{◌≡◌, refl, ap, ◌∙◌, ⊎_elim, ◌⊎◌, inl, inr, ℕ, zero, suc, ◌+◌, ◌*◌, ◌-◌, ◌≤◌, ◌<◌, max, mul-le-mul, eq-or-lt_of_le, arith, List, get_or, set, length-set, get_or-set_same, get_or-set_other}
use Rattle.deep.specs.declared.Scale.{Scale}
use Rattle.deep.specs.declared.Cell.{Cell}
use Rattle.deep.specs.declared.Block.{Block}
use Rattle.deep.specs.Terms.Blocks.{no_cell, no_block, Narrow, worth, total, bias, Blocked, BlockOf}
use Rattle.deep.proofs.Sums.{three, total_one, total_small}

-- The last m cells before cell `to` were read; each loses `less`.
pub record ReadTo (s : Scale) (cells : List Cell) (to less m sum line top : ℕ) : Type 0 where
  pub inside : m ≤ to
  pub sum_is : sum ≡ total s cells (to - m) m
  pub line_is : line ≡ m * less
  pub tops : (a n : ℕ) → n ≤ m → a + n ≡ to → total s cells a n + bias ≤ top + n * less

pub read_none : (s : Scale) (cells : List Cell) (to less : ℕ) → ReadTo s cells to less 0 0 0 bias
unfolding total
read_none s cells to less =
    record { inside = omega arith; sum_is = refl; line_is = omega arith; tops = λ a n l e. none a n (let z : n ≡ 0 = omega arith in z) }
  where
    none : (a n : ℕ) → n ≡ 0 → total s cells a n + bias ≤ bias + n * less
    none a zero e = omega arith
    none a (suc n) e = absurd (let z : ⊥ = omega arith in z)

module _ (s : Scale) (n : Narrow s) (cells : List Cell) (to less m sum line top : ℕ) (R : ReadTo s cells to less m sum line top) (left : m < to) (few : m < 64) (small : less < 18014398509481984) where
  abbrev at : ℕ
  at = to - suc m

  one_more : total s cells at (suc m) ≡ worth s (get_or cells at no_cell) + sum
  one_more =
      let z : suc at ≡ to - m = omega arith in
      total_one s cells at m ∙ omega (arith, ap (λ (i : ℕ). total s cells i m) z, R.sum_is)

  pub room : (sum < 72057594037927936) × (line + less ≤ bias)
  room =
      let t = total_small s n cells (to - m) m in
      let l : line + less ≡ suc m * less = omega (arith, R.line_is) in
      let k : suc m * less ≤ 64 * 18014398509481984 = scaled (suc m) less (omega arith) (omega arith) in
      (omega (arith, R.sum_is), omega arith)
    where
      scaled : (a b : ℕ) → a ≤ 64 → b ≤ 18014398509481984 → a * b ≤ 64 * 18014398509481984
      scaled a b h k = mul-le-mul h k

  pub read_on : (sum' line' top' : ℕ) → sum' ≡ sum + worth s (get_or cells at no_cell) → line' ≡ line + less → top' ≡ max top (bias + sum' - line') → ReadTo s cells to less (suc m) sum' line' top'
  read_on sum' line' top' a b c =
      record {
        inside = omega arith;
        sum_is = a ∙ omega (arith, one_more);
        line_is = b ∙ omega (arith, R.line_is);
        tops = λ i k l e. ⊎_elim
            (λ (z : k ≡ suc m).
            let i_is : i ≡ at = omega arith in
            let r = room in
            let t : total s cells i k ≡ sum' = ap (λ (j : ℕ). total s cells j k) i_is ∙ ap (total s cells at) z ∙ one_more ∙ omega (arith, a) in
            let u : k * less ≡ line' = ap (λ (j : ℕ). j * less) z ∙ omega (arith, b, R.line_is) in
            omega arith)
            (λ (z : k < suc m). let t = R.tops i k (omega arith) e in omega arith) (eq-or-lt_of_le l);
      }

pub read_all : (s : Scale) (cells : List Cell) (k phi : ℕ) (b : Block) → ReadTo s cells (k * 64 + 64) (s.threshold + phi) 64 b.sum (64 * (s.threshold + phi)) b.top → b.phi ≡ phi → BlockOf s cells k phi b
read_all s cells k phi b R e =
    let z : k * 64 + 64 - 64 ≡ k * 64 = omega arith in
    record { sum = R.sum_is ∙ ap (λ (i : ℕ). total s cells i 64) z; phi_is = e; top = λ a m l f. R.tops a m (omega arith) f }

pub rewritten : (s : Scale) (cells : List Cell) (blocks : List Block) (k phi : ℕ) (b : Block) → k < 128 → Blocked s cells blocks → BlockOf s cells k phi b → Blocked s cells (set blocks k b)
rewritten s cells blocks k phi b h B R =
    record {
      cells_long = B.cells_long;
      blocks_long = length-set blocks k b ∙ B.blocks_long;
      few = B.few;
      sum = λ j l. sum_at j l (three j k);
      top = λ j a m l f e. top_at j a m l f e (three j k);
    }
  where
    sum_at : (j : ℕ) → j < 128 → (j ≡ k) ⊎ ((j < k) ⊎ (k < j)) → (get_or (set blocks k b) j no_block).sum ≡ total s cells (j * 64) 64
    sum_at j l (inl e) = rw (e, get_or-set_same blocks k b no_block (omega (arith, B.blocks_long))) R.sum
    sum_at j l (inr o) = rw (get_or-set_other blocks k j b no_block (λ (e : j ≡ k). ⊎_elim (λ (x : j < k). let z : ⊥ = omega arith in z) (λ (x : k < j). let z : ⊥ = omega arith in z) o)) (B.sum j l)

    top_at : (j a m : ℕ) → j < 128 → j * 64 ≤ a → a + m ≡ j * 64 + 64 → (j ≡ k) ⊎ ((j < k) ⊎ (k < j))
        → total s cells a m + bias ≤ (get_or (set blocks k b) j no_block).top + m * (s.threshold + (get_or (set blocks k b) j no_block).phi)
    top_at j a m l f e (inl q) =
        let f' : k * 64 ≤ a = omega arith in
        let e' : a + m ≡ k * 64 + 64 = omega arith in
        rw (q, get_or-set_same blocks k b no_block (omega (arith, B.blocks_long)), R.phi_is) (R.top a m f' e')
    top_at j a m l f e (inr o) = rw (get_or-set_other blocks k j b no_block (λ (z : j ≡ k). ⊎_elim (λ (x : j < k). let y : ⊥ = omega arith in y) (λ (x : k < j). let y : ⊥ = omega arith in y) o)) (B.top j a m l f e)
