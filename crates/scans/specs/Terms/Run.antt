-- Terms of contracts: the setup that the code's run goes by, the window that its ring holds, and what the scans ask of both.
use Rattle.std.specs.Prelude.{◌≡◌, List, ◌++◌, ℕ, ◌+◌, ◌-◌, ◌<◌, ◌≤◌, length, drop}
use Rattle.letters.specs.Place.{Place}
use Rattle.letters.specs.Terms.Entry.{decoded}
use Rattle.scans.specs.declared.run.Setup.{Setup as RunSetup}
use Rattle.scans.specs.declared.run.Ring.{Ring}
use Rattle.scans.specs.Setup.{Setup}
use Rattle.scans.specs.Terms.Numbers.{setup_of}
use Rattle.scans.specs.Terms.Window.{window, Windowed, Joining}
use Rattle.scans.specs.Terms.Parts.{Queued, Ringed, Coded}

abbrev pub as_setup : RunSetup → Setup
as_setup s = setup_of s.params s.ln.now s.f.now

-- The places of the entries, the oldest first.
abbrev pub entries_of : Ring → List Place
entries_of r = window r.queue.now r.head r.len

-- What follows is not held by fields of a type: the counts, which every call changes, are lent beside the ring.
-- The k-mer of each entry has one of n counts.
abbrev pub KmersCounted : Ring → ℕ → Type 0
KmersCounted r n = Queued r.queue.now r.head r.len n

-- And the tables reach to the ring's length.
abbrev pub TablesReach : RunSetup → Ring → ℕ → Type 0
TablesReach s r n = Ringed r.queue.now r.head r.len (length s.ln.now) (length s.f.now) n

-- The ring is as long as the window may be, and the window counts are those of its entries.
abbrev pub WindowCounted : RunSetup → Ring → List ℕ → Type 0
WindowCounted s r window_counts = Windowed s.params r.queue.now r.head r.len window_counts (length s.ln.now)

-- And the newest entry is still to join the scan counts.
abbrev pub NewestJoins : RunSetup → Ring → List ℕ → List ℕ → Type 0
NewestJoins s r window_counts counts = Joining s.params r.queue.now r.head r.len window_counts (length s.ln.now) counts

-- Entries `from` to `to - 1` stand in two straight parts of the ring, one after the other.
pub record InParts (r : Ring) (from to : ℕ) (older newer : List ℕ) : Type 0 where
  pub both : drop from (entries_of r) ≡ decoded older ++ (decoded newer ++ drop to (entries_of r))
  pub long : from + length older + length newer ≡ to
  pub older_coded : {n : ℕ} → KmersCounted r n → Coded older n
  pub newer_coded : {n : ℕ} → KmersCounted r n → Coded newer n

-- The entries just before entry `low` stand in one straight part of the ring.
pub record PartTo (r : Ring) (low : ℕ) (part : List ℕ) : Type 0 where
  pub some : 0 < length part
  pub inside : length part ≤ low
  pub stands : drop (low - length part) (entries_of r) ≡ decoded part ++ drop low (entries_of r)
  pub coded : {n : ℕ} → KmersCounted r n → Coded part n
