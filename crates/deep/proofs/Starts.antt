-- What whole numbers tell of all starts: place by place from the newest on (`low_on`), and of a block's starts by its bound (`block_low`).
use Rattle.std.proofs.Common.{◌≡◌, refl, sym, ap, ◌∙◌, subst, ⊎_elim, ◌⊎◌, inl, inr, ℕ, zero, suc, ◌+◌, ◌*◌, ◌-◌, ◌/◌, ◌%◌, ◌≤◌, ◌<◌, eq-or-lt_of_le, arith, Bool, true, List, [], ◌∷◌, length, get_or, drop}
use Rattle.letters.specs.Place.{Place}
use Rattle.deep.specs.declared.Scale.{Scale}
use Rattle.deep.specs.declared.Cell.{Cell}
use Rattle.deep.specs.declared.Block.{Block}
use Rattle.deep.specs.declared.told.Part.{Part}
use Rattle.deep.specs.Scores.{gain, loss, mu}
use Rattle.deep.specs.Terms.Blocks.{no_cell, no_block, Narrow, worth, total, Blocked}
use Rattle.deep.specs.Terms.Cells.{cell, order_at, Ordered}
use Rattle.deep.specs.Terms.Told.{LowTo, ReadPart, Bends, BlockLow}
use Rattle.deep.proofs.Sums.{three, total_small}

pub gain_from : (ln : List ℕ) (q : List Place) (a : ℕ) → a < length q → gain ln (drop a q) ≡ get_or ln (order_at q a) 0 + gain ln (drop (suc a) q)
gain_from ln [] a h = absurd (let z : ⊥ = omega arith in z)
gain_from ln (e ∷ q) zero h = refl
gain_from ln (e ∷ q) (suc a) h = gain_from ln q a (omega arith)

gain_past : (ln : List ℕ) (q : List Place) (a : ℕ) → length q ≤ a → gain ln (drop a q) ≡ 0
gain_past ln [] zero h = refl
gain_past ln [] (suc a) h = refl
gain_past ln (e ∷ q) zero h = absurd (let z : ⊥ = omega arith in z)
gain_past ln (e ∷ q) (suc a) h = gain_past ln q a (omega arith)

-- The l newest places of q gain g, and the starts of fewer are low.
pub record Newest (s : Scale) (q : List Place) (l g : ℕ) : Type 0 where
  pub gain_is : (a : ℕ) → a + l ≡ length q → g ≡ gain s.ln.now (drop a q)
  pub small : g ≤ l * 137438953472
  pub low : LowTo s q l

pub newest_none : (s : Scale) (q : List Place) → Newest s q 0 0
newest_none s q =
    record { gain_is = λ a e. sym (gain_past s.ln.now q a (omega arith)); small = omega arith; low = record { low = λ a m e some l. absurd (let z : ⊥ = omega arith in z) } }

module _ (s : Scale) (n : Narrow s) (lo : ℕ) (q : List Place) (cells : List Cell) (o : Ordered lo q 0 (length q) cells) where
  pub worth_at : (a : ℕ) → a < length q → worth s (cell cells (lo + a)) ≡ get_or s.ln.now (order_at q a) 0
  worth_at a h = ap (λ (c : ℕ). get_or s.ln.now c 0) (o.count a (omega arith) h)

  -- One place more.
  pub low_on : (l g a : ℕ) → Newest s q l g → a + suc l ≡ length q → (g' : ℕ) → g' ≡ g + worth s (cell cells (lo + a)) → g' + mu ≤ loss s.threshold s.f.now (suc l) → Newest s q (suc l) g'
  low_on l g a N e g' h test =
      let here : g' ≡ gain s.ln.now (drop a q) = h ∙ omega (arith, gain_from s.ln.now q a (omega arith), worth_at a (omega arith), N.gain_is (suc a) (omega arith)) in
      record {
        gain_is = λ b f. let z : a ≡ b = omega arith in here ∙ ap (λ (i : ℕ). gain s.ln.now (drop i q)) z;
        small = omega (arith, N.small, n.ln_small (cell cells (lo + a)).count);
        low = record {
          low = λ b m f some k. ⊎_elim
              (λ (z : m ≡ suc l).
              let y : b ≡ a = omega arith in
              let t : gain s.ln.now (drop b q) ≡ g' = ap (λ (i : ℕ). gain s.ln.now (drop i q)) y ∙ sym here in
              let u : loss s.threshold s.f.now m ≡ loss s.threshold s.f.now (suc l) = ap (loss s.threshold s.f.now) z in
              omega (arith, t, u))
              (λ (z : m < suc l). N.low.low b m f some (omega arith)) (eq-or-lt_of_le k);
        };
      }

  -- ---- A block, before which the newest `read` places stand; place b is the oldest of these.
  module _ (b k : ℕ) (b_in : b ≤ length q) (full : (lo + b) % 64 ≡ 0) (k_is : k ≡ (lo + b - 1) / 64 % 128) (some : 0 < b) where
    slot : (a z : ℕ) → a + suc z ≡ b → suc z ≤ 64 → k * 64 + 64 - suc z ≡ (lo + a) % 8192
    slot a z e h = omega arith

    block_gain : (z a : ℕ) → a + z ≡ b → z ≤ 64 → total s cells (k * 64 + 64 - z) z + gain s.ln.now (drop b q) ≡ gain s.ln.now (drop a q)
    unfolding total
    block_gain zero a e h = let z : b ≡ a = omega arith in omega (arith, ap (λ (i : ℕ). gain s.ln.now (drop i q)) z)
    block_gain (suc z) a e h =
        let at : suc (k * 64 + 64 - suc z) ≡ k * 64 + 64 - z = omega arith in
        let is : worth s (get_or cells (k * 64 + 64 - suc z) no_cell) ≡ worth s (cell cells (lo + a)) = ap (λ (i : ℕ). worth s (get_or cells i no_cell)) (slot a z e h) in
        omega (
          arith,
          is,
          ap (λ (i : ℕ). total s cells i z) at,
          block_gain z (suc a) (omega arith) (omega arith),
          gain_from s.ln.now q a (omega arith),
          worth_at a (omega arith),
        )

-- f grows over z places at least as much as z times by how much it grows over the first.
steep : (s : Scale) (w l phi : ℕ) → Bends s w → get_or s.f.now l 0 + phi ≤ get_or s.f.now (l + 1) 0 → (z : ℕ) → l + z ≤ w → get_or s.f.now l 0 + z * phi ≤ get_or s.f.now (l + z) 0 + z * 10
steep s w l phi B h zero k = let z : l + 0 ≡ l = omega arith in omega (arith, ap (λ (i : ℕ). get_or s.f.now i 0) z)
steep s w l phi B h (suc z) k =
    let y : l + z + 1 ≡ l + suc z = omega arith in
    omega (arith, steep s w l phi B h z (omega arith), B.bends l (l + z) (omega arith) (omega arith), h, ap (λ (i : ℕ). get_or s.f.now i 0) y)

-- ---- A block whose test is passed.
module _ (s : Scale) (n : Narrow s) (lo : ℕ) (q : List Place) (cells : List Cell) (blocks : List Block) (o : Ordered lo q 0 (length q) cells) (B : Blocked s cells blocks) (p : Part) (R : ReadPart s lo q p) (left : p.read < length q)
    (k : ℕ) (k_is : k ≡ (lo + (length q - p.read) - 1) / 64 % 128) where
  abbrev b : ℕ
  b = length q - p.read

  abbrev block : Block
  block = get_or blocks k no_block

  pub low_more : (r : Bool) → BlockLow s block p r → r ≡ true → Bends s (length q) → LowTo s q p.read → LowTo s q (p.read + 64)
  low_more r t is d L = record { low = λ a m e some l. by a m e some l (three m p.read) }
    where
      at : (a z : ℕ) → a + z ≡ b → 0 < z → z ≤ 64 → p.read + z ≤ length q → gain s.ln.now (drop a q) + mu ≤ loss s.threshold s.f.now (p.read + z)
      at a z e some l inside =
          let top = B.top k (k * 64 + 64 - z) z (omega arith) (omega arith) (omega arith) in
          let g = block_gain s n lo q cells o b k (omega arith) (R.full b (omega arith) (omega arith)) k_is (omega arith) z a e l in
          let own = R.gain_is b (omega arith) in
          let f = steep s (length q) p.read block.phi d (t.grows is) z inside in
          let below = t.below is in
          let y : (p.read + z) * s.threshold ≡ p.read * s.threshold + z * s.threshold = omega arith in
          let u : z * (s.threshold + block.phi) ≡ z * s.threshold + z * block.phi = omega arith in
          omega arith

      by : (a m : ℕ) → a + m ≡ length q → 0 < m → m ≤ p.read + 64 → (m ≡ p.read) ⊎ ((m < p.read) ⊎ (p.read < m)) → gain s.ln.now (drop a q) + mu ≤ loss s.threshold s.f.now m
      by a m e some l (inl z) = L.low a m e some (omega arith)
      by a m e some l (inr (inl z)) = L.low a m e some (omega arith)
      by a m e some l (inr (inr z)) =
          let y : p.read + (m - p.read) ≡ m = omega arith in
          subst (λ (i : ℕ). gain s.ln.now (drop a q) + mu ≤ loss s.threshold s.f.now i) y (at a (m - p.read) (omega arith) (omega arith) (omega arith) (omega arith))

  pub read_more : ReadPart s lo q (record { gain = p.gain + block.sum; read = p.read + 64 })
  read_more =
      let is = B.sum k (omega arith) in
      let small = total_small s n cells (k * 64) 64 in
      let f = R.full b (omega arith) (omega arith) in
      record {
        some = omega arith;
        few = omega arith;
        gain_is = λ a e.
            let g = block_gain s n lo q cells o b k (omega arith) f k_is (omega arith) 64 a (omega arith) (omega arith) in
            let own = R.gain_is b (omega arith) in
            let z : k * 64 + 64 - 64 ≡ k * 64 = omega arith in
            omega (arith, ap (λ (i : ℕ). total s cells i 64) z);
        gain_small = omega (arith, R.gain_small);
        full = λ a e some. omega (arith, f);
      }

-- All starts.
pub low_all : (s : Scale) (q : List Place) (l : ℕ) → length q ≤ l → LowTo s q l → LowTo s q (length q)
low_all s q l h L = record { low = λ a m e some k. L.low a m e some (omega arith) }
