-- The sums and tops of blocks when a cell is written.
use Rattle.std.proofs.Common.{◌≡◌, refl, ap, ap₂, ◌∙◌, ⊎_elim, ◌⊎◌, inl, inr, ℕ, zero, suc, ◌+◌, ◌*◌, ◌-◌, ◌/◌, ◌≤◌, ◌<◌, min, eq-or-lt_of_le, arith, List, length, get_or, set, length-set, get_or-set_same, get_or-set_other}
use Rattle.deep.specs.declared.Scale.{Scale}
use Rattle.deep.specs.declared.Cell.{Cell}
use Rattle.deep.specs.declared.Block.{Block}
use Rattle.deep.specs.Terms.Blocks.{no_cell, no_block, Narrow, worth, total, bias, Blocked}

-- Which of two numbers is less.
pub three : (a b : ℕ) → (a ≡ b) ⊎ ((a < b) ⊎ (b < a))
three zero zero = inl refl
three zero (suc b) = inr (inl (omega arith))
three (suc a) zero = inr (inr (omega arith))
three (suc a) (suc b) = go (three a b)
  where
    go : (a ≡ b) ⊎ ((a < b) ⊎ (b < a)) → (suc a ≡ suc b) ⊎ ((suc a < suc b) ⊎ (suc b < suc a))
    go (inl e) = inl (ap suc e)
    go (inr (inl h)) = inr (inl (omega arith))
    go (inr (inr h)) = inr (inr (omega arith))

pub total_small : (s : Scale) (n : Narrow s) (cells : List Cell) (a m : ℕ) → total s cells a m ≤ m * 137438953472
unfolding total
total_small s n cells a zero = omega arith
total_small s n cells a (suc m) = omega (arith, n.ln_small (get_or cells a no_cell).count, total_small s n cells (suc a) m)

pub total_one : (s : Scale) (cells : List Cell) (a m : ℕ) → total s cells a (suc m) ≡ worth s (get_or cells a no_cell) + total s cells (suc a) m
unfolding total
total_one s cells a m = refl

-- A cell among others that are added.
pub worth_small : (s : Scale) (cells : List Cell) (i a m : ℕ) → a ≤ i → i < a + m → worth s (get_or cells i no_cell) ≤ total s cells a m
unfolding total
worth_small s cells i a zero h k = absurd (let z : ⊥ = omega arith in z)
worth_small s cells i a (suc m) h k =
    ⊎_elim (λ (e : a ≡ i). omega (arith, ap (λ (j : ℕ). worth s (get_or cells j no_cell)) e))
    (λ (l : a < i). omega (arith, worth_small s cells i (suc a) m (omega arith) (omega arith))) (eq-or-lt_of_le h)

module _ (s : Scale) (cells : List Cell) (i : ℕ) (c : Cell) (inside : i < length cells) where
  abbrev cells' : List Cell
  cells' = set cells i c

  pub total_newer : (a m : ℕ) → i < a → total s cells' a m ≡ total s cells a m
  unfolding total
  total_newer a zero h = refl
  total_newer a (suc m) h =
      ap₂ (λ (x y : ℕ). x + y) (ap (worth s) (get_or-set_other cells i a c no_cell (λ (e : a ≡ i). let z : ⊥ = omega arith in z))) (total_newer (suc a) m (omega arith))

  pub total_older : (a m : ℕ) → a + m ≤ i → total s cells' a m ≡ total s cells a m
  unfolding total
  total_older a zero h = refl
  total_older a (suc m) h =
      ap₂ (λ (x y : ℕ). x + y) (ap (worth s) (get_or-set_other cells i a c no_cell (λ (e : a ≡ i). let z : ⊥ = omega arith in z))) (total_older (suc a) m (omega arith))

  pub total_at : (a m : ℕ) → a ≤ i → i < a + m → total s cells' a m + worth s (get_or cells i no_cell) ≡ total s cells a m + worth s c
  unfolding total
  total_at a zero h k = absurd (let z : ⊥ = omega arith in z)
  total_at a (suc m) h k =
      ⊎_elim
      (λ (e : a ≡ i).
      let here : worth s (get_or cells' a no_cell) ≡ worth s c = ap (λ (j : ℕ). worth s (get_or cells' j no_cell)) e ∙ ap (worth s) (get_or-set_same cells i c no_cell inside) in
      let was : worth s (get_or cells a no_cell) ≡ worth s (get_or cells i no_cell) = ap (λ (j : ℕ). worth s (get_or cells j no_cell)) e in
      omega (arith, here, was, total_newer (suc a) m (omega arith)))
      (λ (l : a < i).
      let here : worth s (get_or cells' a no_cell) ≡ worth s (get_or cells a no_cell) = ap (worth s) (get_or-set_other cells i a c no_cell (λ (e : a ≡ i). let z : ⊥ = omega arith in z)) in
      omega (arith, here, total_at (suc a) m (omega arith) (omega arith)))
      (eq-or-lt_of_le h)

module _ (s : Scale) (n : Narrow s) (cells : List Cell) (blocks : List Block) (B : Blocked s cells blocks) (i : ℕ) (inside : i < 8192) where
  abbrev k : ℕ
  k = i / 64

  abbrev old : Block
  old = get_or blocks k no_block

  abbrev was : ℕ
  was = worth s (get_or cells i no_cell)

  -- The sum has room for a cell's gain, and holds what it gained before.
  pub sum_room : (was ≤ old.sum) × (old.sum ≤ 64 * 137438953472)
  sum_room =
      let is = B.sum k (omega arith) in
      (rw is (worth_small s cells i (k * 64) 64 (omega arith) (omega arith)), rw is (total_small s n cells (k * 64) 64))

  module _ (c : Cell) (few : c.count ≤ 8064) (b : Block) (sum_is : b.sum + was ≡ old.sum + worth s c) (phi_is : b.phi ≡ old.phi) (top_is : (old.top + (worth s c - was) ≤ b.top) ⊎ (18446744073709551615 ≤ b.top)) where
    few_at : (p : ℕ) → (p ≡ i) ⊎ ((p < i) ⊎ (i < p)) → (get_or (set cells i c) p no_cell).count ≤ 8064
    few_at p (inl e) = rw (e, get_or-set_same cells i c no_cell (omega (arith, B.cells_long))) few
    few_at p (inr o) = rw (get_or-set_other cells i p c no_cell (λ (e : p ≡ i). ⊎_elim (λ (x : p < i). let z : ⊥ = omega arith in z) (λ (x : i < p). let z : ⊥ = omega arith in z) o)) (B.few p)

    sum_at : (j : ℕ) → j < 128 → (j ≡ k) ⊎ ((j < k) ⊎ (k < j)) → (get_or (set blocks k b) j no_block).sum ≡ total s (set cells i c) (j * 64) 64
    sum_at j h (inl e) =
        rw (e, get_or-set_same blocks k b no_block (omega (arith, B.blocks_long)))
        (omega (arith, B.sum k (omega arith), total_at s cells i c (omega (arith, B.cells_long)) (k * 64) 64 (omega arith) (omega arith)))
    sum_at j h (inr (inl l)) =
        rw (get_or-set_other blocks k j b no_block (λ (e : j ≡ k). let z : ⊥ = omega arith in z), total_older s cells i c (omega (arith, B.cells_long)) (j * 64) 64 (omega arith)) (B.sum j h)
    sum_at j h (inr (inr l)) =
        rw (get_or-set_other blocks k j b no_block (λ (e : j ≡ k). let z : ⊥ = omega arith in z), total_newer s cells i c (omega (arith, B.cells_long)) (j * 64) 64 (omega arith)) (B.sum j h)

    top_same : (a m : ℕ) → k * 64 ≤ a → a + m ≡ k * 64 + 64 → (i < a) ⊎ (a ≤ i) → total s (set cells i c) a m + bias ≤ b.top + m * (s.threshold + b.phi)
    top_same a m f e (inl l) =
        let t = B.top k a m (omega arith) f e in
        let same = total_newer s cells i c (omega (arith, B.cells_long)) a m l in
        let small = total_small s n cells a m in
        let m_few : m ≤ 64 = omega arith in
        let ms = ap (λ (p : ℕ). m * (s.threshold + p)) phi_is in
        ⊎_elim (λ (u : old.top + (worth s c - was) ≤ b.top). omega arith) (λ (u : 18446744073709551615 ≤ b.top). omega arith) top_is
    top_same a m f e (inr l) =
        let t = B.top k a m (omega arith) f e in
        let at = total_at s cells i c (omega (arith, B.cells_long)) a m l (omega arith) in
        let small = total_small s n cells a m in
        let own = n.ln_small c.count in
        let m_few : m ≤ 64 = omega arith in
        let ms = ap (λ (p : ℕ). m * (s.threshold + p)) phi_is in
        ⊎_elim (λ (u : old.top + (worth s c - was) ≤ b.top). omega arith) (λ (u : 18446744073709551615 ≤ b.top). omega arith) top_is

    top_at : (j a m : ℕ) → j < 128 → j * 64 ≤ a → a + m ≡ j * 64 + 64 → (j ≡ k) ⊎ ((j < k) ⊎ (k < j))
        → total s (set cells i c) a m + bias ≤ (get_or (set blocks k b) j no_block).top + m * (s.threshold + (get_or (set blocks k b) j no_block).phi)
    top_at j a m h f e (inl q) =
        let f' : k * 64 ≤ a = omega arith in
        let e' : a + m ≡ k * 64 + 64 = omega arith in
        rw (q, get_or-set_same blocks k b no_block (omega (arith, B.blocks_long))) (top_same a m f' e' (order_of i a))
      where
        order_of : (i a : ℕ) → (i < a) ⊎ (a ≤ i)
        order_of i a = ⊎_elim (λ (e : i ≡ a). inr (omega arith)) (λ (r : (i < a) ⊎ (a < i)). ⊎_elim (λ (l : i < a). inl l) (λ (l : a < i). inr (omega arith)) r) (three i a)
    top_at j a m h f e (inr (inl l)) =
        rw (get_or-set_other blocks k j b no_block (λ (e : j ≡ k). let z : ⊥ = omega arith in z), total_older s cells i c (omega (arith, B.cells_long)) a m (omega arith)) (B.top j a m h f e)
    top_at j a m h f e (inr (inr l)) =
        rw (get_or-set_other blocks k j b no_block (λ (e : j ≡ k). let z : ⊥ = omega arith in z), total_newer s cells i c (omega (arith, B.cells_long)) a m (omega arith)) (B.top j a m h f e)

    pub written : Blocked s (set cells i c) (set blocks k b)
    written =
        record {
          cells_long = length-set cells i c ∙ B.cells_long;
          blocks_long = length-set blocks k b ∙ B.blocks_long;
          few = λ p. few_at p (three p i);
          sum = λ j h. sum_at j h (three j k);
          top = λ j a m h f e. top_at j a m h f e (three j k);
        }

-- A sum that stays at 2^64 - 1.
pub capped : (x limit r : ℕ) → r ≡ min x limit → (x ≤ r) ⊎ (limit ≤ r)
capped x limit r e = ⊎_elim (λ (h : x ≡ limit). inl (omega arith)) (λ (h : (x < limit) ⊎ (limit < x)). ⊎_elim (λ (l : x < limit). inl (omega arith)) (λ (l : limit < x). inr (omega arith)) h) (three x limit)
