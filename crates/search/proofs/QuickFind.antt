-- What a quick backward scan without a near tie tells: its best place lies in the window (`quick_inside`), and is the find where the forward scan from it is best at the newest place (`quick_find`).
use Rattle.std.proofs.Common.{◌≡◌, sym, ap, ◌∙◌, subst, ℕ, suc, ◌≤◌, ◌<◌, arith, false, List, [], length}
use Rattle.letters.specs.Place.{Place, Below}
use Rattle.scans.specs.Setup.{Setup, kmers}
use Rattle.scans.specs.Counts.{cleared}
use Rattle.scans.specs.Scans.{backward_start, Backward, backward_from, at, Forward, dust_forward, dust_backward}
use Rattle.scans.specs.Terms.Parts.{Rest}
use Rattle.search.specs.Terms.Carry.{ScansQuick}
use Rattle.search.proofs.Noting.{backward_scanned}
use Rattle.search.proofs.QuickScan.{Agrees, quick_backward, best_tried}

module _ (S : Setup) (q : List Place) (below : Below (kmers S) q) (r : Rest) (k : ScansQuick S q r) (clear : r.paused ≡ false) where
  abbrev b : Backward
  b = backward_from S q (length q) 1 backward_start (cleared S) []

  agrees : Agrees r b
  agrees = subst (λ (z : Rest). Agrees z b) (sym k.scanned) (quick_backward S k.window_counts q k.window_counted below (ap (λ (z : Rest). z.paused) (sym k.scanned) ∙ clear))

  pub quick_inside : 0 < length q → r.sums.found ≤ length q
  quick_inside some = omega (arith, agrees.found_same, (backward_scanned S q some).found_in)

  pub quick_find : (j : ℕ) (o : Forward) → r.sums.found ≡ suc j → dust_forward S q j r.sums.best ≡ o → o.sums.found ≡ length q → dust_backward S q ≡ record { find = at j; counts = o.counts }
  unfolding dust_backward
  quick_find j o e p f = best_tried S q b r agrees j e (ap (λ (z : Forward). z.sums.found) p ∙ f) ∙ ap (λ (z : Forward). record { find = at j; counts = z.counts }) p
