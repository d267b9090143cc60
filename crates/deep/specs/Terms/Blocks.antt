-- Terms of contracts: what is kept of cells and blocks, whatever places they stand for.
use Rattle.std.specs.Prelude.{◌≡◌, ℕ, zero, suc, ◌+◌, ◌*◌, ◌<◌, ◌≤◌, List, length, get_or}
use Rattle.deep.specs.declared.Scale.{Scale}
use Rattle.deep.specs.declared.Cell.{Cell}
use Rattle.deep.specs.declared.Block.{Block}

-- What stands past the end of a slice.
abbrev pub no_cell : Cell
no_cell = record { entry = 0; count = 0; link = 0 }

abbrev pub no_block : Block
no_block = record { sum = 0; top = 0; phi = 0 }

-- The ln table reaches to each count, which is at most 8,064; entry 0 is 0. T and its entries are below 2^37, f entries below 2^53.
pub record Narrow (s : Scale) : Type 0 where
  pub reach : 8064 < length s.ln.now
  pub none : get_or s.ln.now 0 0 ≡ 0
  pub t_small : s.threshold < 137438953472
  pub ln_small : (c : ℕ) → get_or s.ln.now c 0 < 137438953472
  pub f_small : (l : ℕ) → get_or s.f.now l 0 < 9007199254740992

-- What the place of a cell gains.
abbrev pub worth : Scale → Cell → ℕ
worth s c = get_or s.ln.now c.count 0

-- What the places of the m cells from a on gain.
unfoldable pub total : Scale → List Cell → ℕ → ℕ → ℕ
total s cells a zero = 0
total s cells a (suc m) = worth s (get_or cells a no_cell) + total s cells (suc a) m

-- What a top stands above the sums that it bounds.
abbrev pub bias : ℕ
bias = 1152921504606846976

-- Each block's sum and top.
pub record Blocked (s : Scale) (cells : List Cell) (blocks : List Block) : Type 0 where
  pub cells_long : length cells ≡ 8192
  pub blocks_long : length blocks ≡ 128
  pub few : (p : ℕ) → (get_or cells p no_cell).count ≤ 8064
  pub sum : (k : ℕ) → k < 128 → (get_or blocks k no_block).sum ≡ total s cells (k * 64) 64
  pub top : (k a m : ℕ) → k < 128 → k * 64 ≤ a → a + m ≡ k * 64 + 64
      → total s cells a m + bias ≤ (get_or blocks k no_block).top + m * (s.threshold + (get_or blocks k no_block).phi)

-- What block k is to hold, its bound being less phi a place.
pub record BlockOf (s : Scale) (cells : List Cell) (k phi : ℕ) (b : Block) : Type 0 where
  pub sum : b.sum ≡ total s cells (k * 64) 64
  pub phi_is : b.phi ≡ phi
  pub top : (a m : ℕ) → k * 64 ≤ a → a + m ≡ k * 64 + 64 → total s cells a m + bias ≤ b.top + m * (s.threshold + phi)
