-- A walk from the newest place back over the cells of a stretch's places, whose counts are given: the l-th newest has its cell, whose order is within the counts, and what it adds is taken from the stretch's gain (`taken`).
use Rattle.std.proofs.Common.{◌≡◌, sym, ap, ◌∙◌, subst, ℕ, suc, ◌+◌, ◌-◌, ◌/◌, ◌%◌, ◌≤◌, ◌<◌, arith, List, length, get_or, drop, length-drop}
use Rattle.letters.specs.Place.{Place, plain, BelowAt}
use Rattle.letters.specs.Terms.Entry.{decode}
use Rattle.letters.proofs.Entries.{decode_plain}
use Rattle.scans.specs.declared.run.Ring.{Ring}
use Rattle.scans.specs.Terms.Counted.{Counted}
use Rattle.scans.specs.Terms.Run.{entries_of, KmersCounted}
use Rattle.scans.proofs.Counting.{count_le}
use Rattle.scans.proofs.Rings.{entries_long}
use Rattle.scans.proofs.Walk.{queued_below}
use Rattle.deep.specs.declared.Scale.{Scale}
use Rattle.deep.specs.declared.Cell.{Cell}
use Rattle.deep.specs.declared.Deep.{Deep}
use Rattle.deep.specs.Terms.Blocks.{no_cell, Narrow}
use Rattle.deep.specs.Terms.Cells.{cell, place, order_at, Held}
use Rattle.deep.specs.Terms.Short.{order_left}
use Rattle.deep.proofs.Falling.{Taken, below_here, left_is, left_few, taken_on}

module _ (s : Scale) (n : Narrow s) (lo : ℕ) (r : Ring) (d : Deep) (held : Held s lo (entries_of r) d) (small : r.len ≤ 8064) (counts : List ℕ) (Q : KmersCounted r (length counts))
    (a : ℕ) (C : Counted (length counts) counts (drop a (entries_of r))) (l : ℕ) (some : 0 < l) (inside : a + l ≤ r.len) where
  abbrev q : List Place
  q = entries_of r

  abbrev m : ℕ
  m = length counts

  abbrev there : ℕ
  there = length q - suc (l - 1)

  abbrev read : Cell
  read = get_or d.cells.now ((lo + r.len - l) % 8192) no_cell

  within_q : a + suc (l - 1) ≤ length q
  within_q = omega (arith, entries_long r)

  there_in : there < length q
  there_in = omega (arith, entries_long r)

  cell_is : read ≡ cell d.cells.now (lo + there)
  cell_is = let at : lo + r.len - l ≡ lo + there = omega (arith, entries_long r) in ap (λ (i : ℕ). cell d.cells.now i) at

  place_is : decode read.entry ≡ place q there
  place_is = ap (λ (x : Cell). decode x.entry) cell_is ∙ held.linked.entry there there_in

  count_is : read.count ≡ order_at q there
  count_is = ap (λ (x : Cell). x.count) cell_is ∙ held.ordered.count there (omega arith) there_in

  plain_is : read.entry % 2 ≡ 0 → place q there ≡ plain (read.entry / 2)
  plain_is even = sym place_is ∙ decode_plain read.entry even

  pub entry_counted : read.entry % 2 ≡ 0 → read.entry / 2 < m
  entry_counted even = subst (λ (p : Place). BelowAt m p) (plain_is even) (below_here s n.none n.ln_small q m (queued_below Q) a (l - 1) within_q)

  pub few : get_or counts (read.entry / 2) 0 ≤ 8064
  few = omega (arith, C.counted (read.entry / 2), count_le (read.entry / 2) (drop a q), length-drop a q, entries_long r, small)

  pub within : read.entry % 2 ≡ 0 → (0 < read.count) × (read.count ≤ get_or counts (read.entry / 2) 0 + 1)
  within even =
      let f = left_few s n.none n.ln_small q m (queued_below Q) a (l - 1) within_q counts C (read.entry / 2) (plain_is even) in
      (omega (arith, f.0, count_is), omega (arith, f.1, count_is))

  pub taken : (sum v : ℕ) → Taken s q a (l - 1) sum → v ≡ get_or s.ln.now (order_left counts read.count (decode read.entry)) 0 → Taken s q a (suc (l - 1)) (sum + v)
  taken sum v t is =
      taken_on s n.none n.ln_small q m (queued_below Q) a (l - 1) within_q sum v t
      (is ∙ ap (λ (o : ℕ). get_or s.ln.now o 0)
      (ap (λ (k : ℕ). order_left counts k (decode read.entry)) count_is ∙ ap (order_left counts (order_at q there)) place_is
      ∙ left_is s n.none n.ln_small q m (queued_below Q) a (l - 1) within_q counts C))
