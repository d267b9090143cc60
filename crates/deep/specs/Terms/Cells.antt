-- Terms of contracts: the places of a window in their cells. Of the places q place j, the oldest being place 0, has number lo + j, and stands in the cell of that number modulo 8,192.
use Rattle.std.specs.Prelude.{◌≡◌, ℕ, zero, suc, ◌+◌, ◌%◌, ◌<◌, ◌≤◌, cond, eqb, List, length, get_or, set, drop}
use Rattle.letters.specs.Place.{Place, ambiguous, plain}
use Rattle.letters.specs.Terms.Entry.{decode}
use Rattle.deep.specs.declared.Scale.{Scale}
use Rattle.deep.specs.declared.Deep.{Deep}
use Rattle.deep.specs.declared.Cell.{Cell}
use Rattle.deep.specs.declared.cells.Met.{Met}
use Rattle.deep.specs.Scores.{order}
use Rattle.deep.specs.Terms.Blocks.{no_cell, Blocked}

abbrev pub place : List Place → ℕ → Place
place q j = get_or q j ambiguous

abbrev pub cell : List Cell → ℕ → Cell
cell cells p = get_or cells (p % 8192) no_cell

-- The order of place j.
abbrev pub order_at : List Place → ℕ → ℕ
order_at q j = order (drop (suc j) q) (place q j)

-- The chain of a place: the low bits of its k-mer; 1,024 if it has none.
abbrev pub chain : Place → ℕ
chain ambiguous = 1024
chain (plain x) = x % 1024

-- One past the last place of chain h before place j; 0 if there is none.
unfoldable pub last_of : List Place → ℕ → ℕ → ℕ
last_of q h zero = 0
last_of q h (suc j) = cond (eqb (chain (place q j)) h) (suc j) (last_of q h j)

-- Each place has its entry, and leads to the one before it of its chain; the heads lead to the newest of each.
pub record Linked (lo : ℕ) (q : List Place) (cells : List Cell) (heads : List ℕ) : Type 0 where
  pub heads_long : length heads ≡ 1024
  pub entry : (j : ℕ) → j < length q → decode (cell cells (lo + j)).entry ≡ place q j
  pub link : (h j r : ℕ) → h < 1024 → j < length q → chain (place q j) ≡ h → last_of q h j ≡ suc r → (cell cells (lo + j)).link ≡ (lo + r) % 8192
  pub head : (h r : ℕ) → h < 1024 → last_of q h (length q) ≡ suc r → get_or heads h 0 ≡ (lo + r) % 8192

-- Of places `from` to `to - 1` the cells have the orders.
pub record Ordered (lo : ℕ) (q : List Place) (from to : ℕ) (cells : List Cell) : Type 0 where
  pub count : (j : ℕ) → from ≤ j → j < to → (cell cells (lo + j)).count ≡ order_at q j

-- All that is kept of a window's places.
pub record Held (s : Scale) (lo : ℕ) (q : List Place) (d : Deep) : Type 0 where
  pub linked : Linked lo q d.cells.now d.heads.now
  pub ordered : Ordered lo q 0 (length q) d.cells.now
  pub blocked : Blocked s d.cells.now d.blocks.now

-- A cell of the chain is met, t places of the newest one's k-mer being met before: if it is one, it is the next.
pub record Meets (entry s t : ℕ) (r : Met) (cells cells' : List Cell) : Type 0 where
  pub next : r.next ≡ (get_or cells s no_cell).link
  pub same : (get_or cells s no_cell).entry ≡ entry → (r.times ≡ t + 1) × (cells' ≡ set cells s (record { entry = entry; count = t + 1; link = (get_or cells s no_cell).link }))
  pub other : ((get_or cells s no_cell).entry ≡ entry → ⊥) → (r.times ≡ t) × (cells' ≡ cells)
