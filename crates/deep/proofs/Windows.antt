-- The window in a ring: how long it is, and its newest place.
use Rattle.std.proofs.Common.{◌≡◌, sym, subst, List, length, ℕ, suc, ◌-◌, ◌<◌, arith, take, length-take-le}
use Rattle.letters.specs.Terms.Entry.{decode}
use Rattle.letters.proofs.Entries.{decoded_at}
use Rattle.scans.specs.declared.run.Ring.{Ring}
use Rattle.scans.specs.Terms.Run.{entries_of}
use Rattle.scans.specs.Terms.Window.{queue, newest_in}
use Rattle.scans.proofs.Rings.{entries_long, queue_length}
use Rattle.deep.specs.declared.Cell.{Cell}
use Rattle.deep.specs.Terms.Cells.{place, Ordered}

module _ (r : Ring) (some : 0 < r.len) where
  pub long : length (entries_of r) ≡ suc (r.len - 1)
  long = omega (arith, entries_long r)

  pub newest_place : decode (newest_in r.queue.now r.head r.len) ≡ place (entries_of r) (r.len - 1)
  newest_place = sym (decoded_at (queue r.queue.now r.head r.len) (r.len - 1) (omega (arith, queue_length r.queue.now r.head r.len r.head_in r.len_in)))

  pub all_ordered : (lo : ℕ) (cells : List Cell) → Ordered lo (entries_of r) 0 (suc (r.len - 1)) cells → Ordered lo (entries_of r) 0 r.len cells
  all_ordered lo cells o = let z : suc (r.len - 1) ≡ r.len = omega arith in subst (λ (n : ℕ). Ordered lo (entries_of r) 0 n cells) z o

  pub all_places : (lo : ℕ) (cells : List Cell) → Ordered lo (entries_of r) 0 r.len cells → Ordered lo (entries_of r) 0 (length (entries_of r)) cells
  all_places lo cells o = subst (λ (n : ℕ). Ordered lo (entries_of r) 0 n cells) (sym (entries_long r)) o

  pub older_places : (lo : ℕ) (cells : List Cell) → Ordered lo (take (r.len - 1) (entries_of r)) 0 (length (take (r.len - 1) (entries_of r))) cells → Ordered lo (take (r.len - 1) (entries_of r)) 0 (r.len - 1) cells
  older_places lo cells o = subst (λ (n : ℕ). Ordered lo (take (r.len - 1) (entries_of r)) 0 n cells) (length-take-le (r.len - 1) (entries_of r) (omega (arith, long))) o
