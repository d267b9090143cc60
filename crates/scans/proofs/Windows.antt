-- What a window in a ring gives a scan: its entries by their index, as places, and that their k-mers and counts lie in range.
use Rattle.std.proofs.Common.{◌≡◌, subst, List, ℕ, ◌/◌, ◌<◌, arith, length, get_or}
use Rattle.letters.specs.Place.{Place, ambiguous}
use Rattle.letters.specs.Terms.Entry.{decode}
use Rattle.scans.specs.declared.Params.{Params}
use Rattle.scans.specs.Terms.Window.{At, queue, window, Windowed}
use Rattle.scans.proofs.Counting.{count_le}
use Rattle.scans.proofs.Rings.{queue_at, window_at, window_length}

module _ {p : Params} {ring : List ℕ} {head len : ℕ} {counts : List ℕ} {n : ℕ} (w : Windowed p ring head len counts n) where
  abbrev q : List Place
  q = window ring head len

  pub long : length q ≡ len
  long = window_length ring head len (omega (arith, w.ring_is, w.head_in)) (omega (arith, w.ring_is, w.len_in))

  pub count_in : (x : ℕ) → get_or counts x 0 < n
  count_in x = omega (arith, w.counted x, count_le x q, long, w.len_in, w.ln_long)

  module _ (j i : ℕ) (k : j < len) (at : At (length ring) head j i) where
    pub entry_in : get_or ring i 0 / 2 < length counts
    entry_in =
        let e : get_or (queue ring head len) j 0 ≡ get_or ring i 0 = queue_at ring head len j i (omega (arith, w.ring_is, w.head_in)) (omega (arith, w.ring_is, w.len_in)) k at in
        subst (λ (z : ℕ). z / 2 < length counts) e (omega (arith, w.below j k, w.counts_long))

    pub entry_place : get_or q j ambiguous ≡ decode (get_or ring i 0)
    entry_place = window_at ring head len j i (omega (arith, w.ring_is, w.head_in)) (omega (arith, w.ring_is, w.len_in)) k at
