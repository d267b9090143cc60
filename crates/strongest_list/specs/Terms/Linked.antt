-- Terms of contracts: places of a row in a buffer, each linked with the one before it of the same k-mer.
use Rattle.std.specs.Prelude.{◌≡◌, ℕ, zero, suc, ◌+◌, ◌-◌, ◌/◌, ◌%◌, ◌≤◌, ◌<◌, List, [], ◌∷◌, get_or}
use Rattle.letters.specs.Place.{Place, ambiguous, plain}
use Rattle.letters.specs.Terms.Entry.{decode}
use Rattle.scans.specs.Counts.{count}
use Rattle.strongest_list.specs.declared.linked.LinkedPlace.{LinkedPlace}
use Rattle.strongest_list.specs.declared.blocks.Block.{Block}
use Rattle.strongest_list.specs.Terms.Blocks.{entry_at, older_at, order_at, Blocked}

-- How often a place's k-mer stands in it and the places q; 0 if it is ambiguous.
abbrev pub order : List Place → Place → ℕ
order q ambiguous = 0
order q (plain x) = suc (count x q)

-- The l places from p on.
unfoldable pub places_in : List LinkedPlace → ℕ → ℕ → List Place
places_in ps p zero = []
places_in ps p (suc l) = decode (entry_at ps p) ∷ places_in ps (suc p) l

-- The order of place p among the first n.
abbrev pub order_in : List LinkedPlace → ℕ → ℕ → ℕ
order_in ps p n = order (places_in ps (suc p) (n - suc p)) (decode (entry_at ps p))

-- Place o - 1 is the last one before place i with its entry; there is none where o is 0.
pub record Older (ps : List LinkedPlace) (i entry o : ℕ) : Type 0 where
  pub below : o ≤ i
  pub same : 0 < o → entry_at ps (o - 1) ≡ entry
  pub last : (j : ℕ) → o ≤ j → j < i → entry_at ps j ≡ entry → ⊥

-- An even entry is that of a plain place.
pub record Chained (ps : List LinkedPlace) (n : ℕ) : Type 0 where
  pub at : (i : ℕ) → i < n → entry_at ps i % 2 ≡ 0 → Older ps i (entry_at ps i) (older_at ps i)

-- By k-mer, one more than the number of the last of the first n places that has it.
pub record Newest (ps : List LinkedPlace) (n : ℕ) (newest : List ℕ) : Type 0 where
  pub above : (j : ℕ) → j < n → entry_at ps j % 2 ≡ 0 → j < get_or newest (entry_at ps j / 2) 0
  pub below : (j : ℕ) → j < n → entry_at ps j % 2 ≡ 0 → get_or newest (entry_at ps j / 2) 0 ≤ n
  pub same : (j : ℕ) → j < n → entry_at ps j % 2 ≡ 0 → entry_at ps (get_or newest (entry_at ps j / 2) 0 - 1) ≡ entry_at ps j

-- The first n places, of windows of w places, orders from place `low` on.
pub record Linked (w : ℕ) (ln : List ℕ) (t low n : ℕ) (ps : List LinkedPlace) (nw : List ℕ) (bs : List Block) : Type 0 where
  pub chained : Chained ps n
  pub newest : Newest ps n nw
  pub orders : (p : ℕ) → low ≤ p → p < n → order_at ps p ≡ order_in ps p n
  pub few : (p : ℕ) → p < n → order_at ps p ≤ w
  pub blocked : Blocked ln t low n (order_at ps) bs

-- Place n was written over the buffer.
pub record Joins (entry n : ℕ) (ps ps' : List LinkedPlace) : Type 0 where
  pub new : entry_at ps' n ≡ entry
  pub others : (p : ℕ) → (p ≡ n → ⊥) → entry_at ps' p ≡ entry_at ps p

pub record Kept (ps ps' : List LinkedPlace) : Type 0 where
  pub entries : (p : ℕ) → entry_at ps' p ≡ entry_at ps p
  pub olders : (p : ℕ) → older_at ps' p ≡ older_at ps p

-- Of the places at .. n - 1 those with the entry of place n were raised; r is one more than their number.
pub record Raised (ps ps' : List LinkedPlace) (n at r : ℕ) : Type 0 where
  pub kept : Kept ps ps'
  pub done : (p : ℕ) → at ≤ p → p < n → entry_at ps p ≡ entry_at ps n → order_at ps' p ≡ order_at ps p + 1
  pub others : (p : ℕ) → (at ≤ p → p < n → entry_at ps p ≡ entry_at ps n → ⊥) → order_at ps' p ≡ order_at ps p
  pub number : r ≡ suc (count (entry_at ps n / 2) (places_in ps at (n - at)))

-- With place n, which was written but not yet counted by those before it.
pub record Written (w : ℕ) (ln : List ℕ) (t low n : ℕ) (ps : List LinkedPlace) (bs : List Block) : Type 0 where
  pub chained : Chained ps (suc n)
  pub orders : (p : ℕ) → low ≤ p → p < n → order_at ps p ≡ order_in ps p n
  pub one : order_at ps n ≡ order [] (decode (entry_at ps n))
  pub few : (p : ℕ) → p < suc n → order_at ps p ≤ w
  pub blocked : Blocked ln t low (suc n) (order_at ps) bs
