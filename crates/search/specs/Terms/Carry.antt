-- A fast form of the forward scan of the paper, 'Step and scans': the last find's, carried on letter by letter, equals the forward scan over its places that no limit stops.
-- The terms of its contracts, with those of the scan counts that a scan leaves.
use Rattle.std.specs.Prelude.{◌≡◌, true, false, None, List, [], ◌∷◌, ◌++◌, ℕ, suc, length, drop, Float}
use Rattle.std.specs.Float.Ieee.{le}
use Rattle.floats.specs.Arithmetic.{◌⊕◌, ◌⊖◌}
use Rattle.floats.specs.Binary64.{zero64}
use Rattle.letters.specs.Place.{Place}
use Rattle.search.specs.declared.Carry.{Carry}
use Rattle.search.specs.declared.Scanned.{Scanned}
use Rattle.scans.specs.declared.backward.BackwardState.{BackwardState}
use Rattle.scans.specs.Setup.{Setup, f_at, kmers}
use Rattle.scans.specs.Counts.{raise, cleared}
use Rattle.scans.specs.Scans.{Find, none, at, Outcome, value, backward_start, dust_backward}
use Rattle.scans.specs.Terms.Counted.{Counted, Touched}
use Rattle.scans.specs.Terms.Window.{counted_value, find_of}
use Rattle.scans.specs.Terms.Parts.{whole_forward, Rest, rest_from, Backs}
use Rattle.search.specs.Terms.Certified.{Certified}

-- No scan is carried.
abbrev pub no_carry : Carry
no_carry = record { on = false; s = zero64; best = zero64; certificate = None }

-- A find's forward scan begins to be carried.
abbrev pub begun_carry : (s best : Float) → Carry
begun_carry s best = record { on = true; s = s; best = best; certificate = None }

-- While it is on, the carried sums are those of the forward scan over all of the places es.
pub record Summed (S : Setup) (es : List Place) (c : Carry) : Type 0 where
  pub s_is : c.on ≡ true → (whole_forward S es).sums.s ≡ c.s
  pub best_is : c.on ≡ true → (whole_forward S es).sums.best ≡ c.best

-- Over the places of the window q from index j on, with a certificate of that start, if there is one. Not a field of a type: the carried scan is a value, and the window is lent.
pub record Carried (S : Setup) (q : List Place) (j : ℕ) (c : Carry) : Type 0 where
  pub sums : Summed S (drop j q) c
  pub certified : c.on ≡ true → Certified S q j c.certificate

-- The answer r is the outcome's find, and the scan counts left are the outcome's where something was found, else all 0.
abbrev pub counts_left : Setup → Find → List ℕ → List ℕ
counts_left S none counts = cleared S
counts_left S (at j) counts = counts

pub record Settles (S : Setup) (o : Outcome) (r : ℕ) (counts : List ℕ) : Type 0 where
  pub find_is : find_of r ≡ o.find
  pub counts_are : counts ≡ counts_left S o.find o.counts

-- And a find begins a carried scan, of the places from the find on.
pub record Answers (S : Setup) (q : List Place) (o : Outcome) (r : Scanned) (counts : List ℕ) : Type 0 where
  pub settles : Settles S o r.found counts
  pub begins : (j : ℕ) → r.found ≡ suc j → (r.carry.on ≡ true) × Carried S q j r.carry
  pub ends : r.found ≡ 0 → r.carry.on ≡ false

-- The newest place e, the l-th of the scan, is added, with counts that have it already; on only where it is the best.
abbrev pub carried_ahead : Setup → ℕ → List ℕ → Place → Carry → Carry
carried_ahead S l counts e c =
    let s : Float = c.s ⊕ (counted_value S.ln counts e ⊖ S.score_threshold) in
    let sl : Float = s ⊖ f_at S l in
    record { on = le c.best sl; s = s; best = sl; certificate = None }

-- The score of a place e, the l-th of the scan; `counts` are those of the places before.
abbrev pub newest_score : Setup → ℕ → List ℕ → Place → Carry → Float
newest_score S l counts e c = c.s ⊕ (value S counts e ⊖ S.score_threshold) ⊖ f_at S l

-- A place e joins the window q₀, and the scan from index j on is carried on to it.
pub record CarriesOn (S : Setup) (q₀ : List Place) (e : Place) (j : ℕ) (c c' : Carry) (counts counts' : List ℕ) : Type 0 where
  pub counts_are : counts' ≡ raise counts e
  pub on_is : c'.on ≡ c.on
  pub carries : c.on ≡ true → Counted (kmers S) counts (drop j q₀) → Carried S q₀ j c → Carried S (q₀ ++ e ∷ []) j c'

-- The whole quick scan rests at b.
pub record ScansQuick (S : Setup) (q : List Place) (b : Rest) : Type 0 where
  pub window_counts : List ℕ
  pub window_counted : Counted (kmers S) window_counts q
  pub scanned : b ≡ rest_from S window_counts true q (length q) backward_start (cleared S)
  pub here : Backs (kmers S) q b

-- After the quick scan b of a window: a carried scan that is on tells the find, which is b's best place. Otherwise only entries that b read have touched the counts.
pub record CarriesAhead (S : Setup) (q : List Place) (b : BackwardState) (r : Carry) (counts : List ℕ) : Type 0 where
  pub tells : r.on ≡ true → Answers S q (dust_backward S q) (record { found = b.found; carry = r }) counts
  pub touched : r.on ≡ false → Touched counts (drop b.low q)

-- A find that is told is the definition's; where none is told, the counts are cleared.
pub record FindsQuickly (S : Setup) (q : List Place) (r : Scanned) (counts : List ℕ) : Type 0 where
  pub tells : (r.found ≡ 0 → ⊥) → Answers S q (dust_backward S q) r counts
  pub clears : r.found ≡ 0 → counts ≡ cleared S
