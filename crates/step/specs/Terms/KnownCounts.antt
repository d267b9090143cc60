-- Terms of contracts: what the scan counts hold between scans, by what the window says of them: the fast form of the paper's scan counts, which are read only where the last letter was a find.
use Rattle.std.specs.Prelude.{◌≡◌, ℕ, ◌<◌, ◌≤◌, Bool, true, false, not, cond, ◌&&◌, List, [], ◌∷◌, ◌++◌, length, drop, replicate, eqb, ℤ, pos}
use Rattle.letters.specs.Place.{Place}
use Rattle.scans.specs.declared.Params.{Params}
use Rattle.scans.specs.Setup.{Setup, kmers}
use Rattle.scans.specs.Counts.{lower, cleared}
use Rattle.scans.specs.Terms.Counted.{Counted, Touched}
use Rattle.scans.specs.Terms.Window.{Joining}
use Rattle.search.specs.Terms.Carry.{no_carry, Carried, CarriesOn}
use Rattle.step.specs.Step.{whole, is_at}
use Rattle.step.specs.declared.window.Window.{Window}
use Rattle.search.specs.declared.Carry.{Carry}

-- Not live: all are 0. Live: only places from last_q on have raised them. A carried scan: they are the counts of the places from last_q on, and the sums are those of the scan over them.
pub record KnownCounts (S : Setup) (q : List Place) (w : Window) (counts : List ℕ) : Type 0 where
  pub clear : w.live ≡ false → counts ≡ cleared S
  pub from : w.live ≡ true → w.last_q ≡ pos (whole w.last_q)
  pub inside : w.live ≡ true → whole w.last_q ≤ length q
  pub touched : w.live ≡ true → Touched counts (drop (whole w.last_q) q)
  pub live : w.carry.on ≡ true → w.live ≡ true
  pub counted : w.carry.on ≡ true → Counted (kmers S) counts (drop (whole w.last_q) q)
  pub carried : Carried S q (whole w.last_q) w.carry

-- Where the oldest place that leaves has its scan count lowered, and a carried scan, which began there, ends: where last_q = 0, unless all counts are 0.
abbrev pub ends : Bool → ℤ → Bool
ends live last = live && is_at last 0

abbrev pub counts_less : Bool → List ℕ → Place → List ℕ
counts_less b counts e = cond b (lower counts e) counts

abbrev pub carry_less : Bool → Carry → Carry
carry_less b c = cond b no_carry c

-- The window with other scan counts.
abbrev pub rescanned : Window → Bool → Carry → Window
rescanned w live carry = record { sum = w.sum; last_q = w.last_q; head = w.head; len = w.len; live = live; carry = carry }

-- ---- No find: what a carried scan asks to go on with the newest entry, and what it makes of the counts; q are the places with that entry.
pub record Passing (p : Params) (w : Window) (ring window_counts : List ℕ) (n_ln n_f : ℕ) (counts : List ℕ) : Type 0 where
  pub f_long : p.window_size < n_f
  pub joining : w.carry.on ≡ true → Joining p ring w.head w.len window_counts n_ln counts
  pub inside : w.carry.on ≡ true → whole w.last_q < w.len

pub record Passes (S : Setup) (q : List Place) (w w' : Window) (counts counts' : List ℕ) : Type 0 where
  pub off : w.carry.on ≡ false → (w' ≡ w) × (counts' ≡ counts)
  pub same : w.carry.on ≡ true → w' ≡ rescanned w w.live w'.carry
  pub on : w.carry.on ≡ true → (q₀ : List Place) (e : Place) → q ≡ q₀ ++ e ∷ [] → CarriesOn S q₀ e (whole w.last_q) w.carry w'.carry counts counts'

-- ---- A find by extension, or of a backward scan: one past its index, 0 for none, and the window with the scan counts that it left.
pub record Sought : Type 0 where
  pub window : Window
  pub found : ℕ

abbrev pub sought : Window → ℕ → Sought
sought w found = record { window = w; found = found }

-- A find by extension.
abbrev pub extended_of : Window → Sought
extended_of w = record { window = rescanned w true no_carry; found = 1 }

-- What is to be known of the counts to clear them.
pub record Clearing (w : Window) (q : List Place) (counts : List ℕ) : Type 0 where
  pub touched : w.live ≡ true → (whole w.last_q ≤ w.len) × Touched counts (drop (whole w.last_q) q)
  pub clear : w.live ≡ false → counts ≡ replicate (length counts) 0

-- What a backward scan found.
abbrev pub answered_by : Window → ℕ → Carry → Sought
answered_by w found carry = record { window = rescanned w (not (eqb found 0)) carry; found = found }
