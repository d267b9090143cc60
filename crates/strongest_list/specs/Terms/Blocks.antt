-- Terms of contracts: what places gain by their orders, and sums over blocks of 64 of them.
use Rattle.std.specs.Prelude.{◌≡◌, ℕ, zero, suc, ◌+◌, ◌-◌, ◌*◌, ◌≤◌, ◌<◌, min, max, cond, List, eqb, length, get_or}
use Rattle.strongest_list.specs.declared.linked.LinkedPlace.{LinkedPlace}
use Rattle.strongest_list.specs.declared.blocks.Block.{Block}

abbrev pub no_place : LinkedPlace
no_place = record { entry = 0; older = 0; order = 0 }

abbrev pub no_block : Block
no_block = record { gain = 0; top = 0 }

abbrev pub entry_at : List LinkedPlace → ℕ → ℕ
entry_at ps p = (get_or ps p no_place).entry

abbrev pub older_at : List LinkedPlace → ℕ → ℕ
older_at ps p = (get_or ps p no_place).older

abbrev pub order_at : List LinkedPlace → ℕ → ℕ
order_at ps p = (get_or ps p no_place).order

-- What a place of that order gains.
abbrev pub value : List ℕ → ℕ → ℕ
value ln order = cond (eqb order 0) 0 (get_or ln order 0)

-- What the l places from p on gain, by their orders.
unfoldable pub gains : List ℕ → (ℕ → ℕ) → ℕ → ℕ → ℕ
gains ln order p zero = 0
gains ln order p (suc l) = value ln (order p) + gains ln order (suc p) l

abbrev pub high : ℕ
high = 1152921504606846976

abbrev pub added : Block → ℕ → ℕ → Block
added b value threshold = record { gain = b.gain + value; top = min (max b.top (64 * threshold) + value - threshold) high }

abbrev pub raised : Block → ℕ → ℕ → Block
raised b was is = record { gain = b.gain + is - was; top = min (b.top + (is - was)) high }

-- What the l newest places of a block gain beyond T for each, with 64 times T more, is at most its top.
abbrev pub Below_top : ℕ → ℕ → ℕ → ℕ → Type 0
Below_top t gain l top = gain + 64 * t ≤ top + l * t

-- The sums over the blocks of the first n places, and tops for the places from `low` on.
pub record Blocked (ln : List ℕ) (t low n : ℕ) (order : ℕ → ℕ) (bs : List Block) : Type 0 where
  pub gain : (j : ℕ) → j < length bs → (get_or bs j no_block).gain ≡ gains ln order (64 * j) (min 64 (n - 64 * j))
  pub top : (j p : ℕ) → j < length bs → 64 * j ≤ p → p < 64 * j + 64 → low ≤ p → p < n
      → Below_top t (gains ln order p (min (64 * j + 64) n - p)) (min (64 * j + 64) n - p) (get_or bs j no_block).top
  pub top_small : (j : ℕ) → j < length bs → (get_or bs j no_block).top ≤ high
