-- A backward scan that is due: what the carried scan asks to tell its answer, and that the scan counts can be cleared where it does not tell it.
use Rattle.std.proofs.Common.{◌≡◌, refl, sym, ◌∙◌, subst, Option, Some, None, IfNone, Bool, true, false, not, true≢false, List, ℕ, ◌-◌, ◌^◌, ◌<◌, arith, length, drop, Float}
use Rattle.scans.specs.declared.Params.{Params}
use Rattle.scans.specs.Terms.Counted.{Counted, Touched}
use Rattle.scans.specs.Terms.Window.{window}
use Rattle.step.specs.Terms.KnownCounts.{Clearing}
use Rattle.search.specs.declared.Scanned.{Scanned}
use Rattle.step.specs.Step.{whole}
use Rattle.step.specs.declared.window.Window.{Window}
use Rattle.step.proofs.Moving.{older_long}
use Rattle.step.proofs.Searching.{clearing}
use Rattle.strand.specs.Terms.Running.{Asking}

is_on : (b : Bool) → not b ≡ false → b ≡ true
is_on true e = refl
is_on false e = sym e

module _ {p : Params} {ln f : List Float} {w : Window} {ring window_counts counts : List ℕ} (a : Asking p ln f w ring window_counts counts) where
  module _ (going : not w.carry.on ≡ false) {l : ℕ} (l_is : l ≡ whole w.last_q) where
    on : w.carry.on ≡ true
    on = is_on w.carry.on going

    pub asks : (l < w.len) × (w.carry.on ≡ true) × (p.window_size < length f) × Counted (4 ^ p.kmer) counts (drop l (window ring w.head (w.len - 1)))
    asks =
        let k = a.known in
        (omega (arith, l_is, k.inside (k.live on), older_long a.windowed, a.some), on, a.f_long, subst (λ (j : ℕ). Counted (4 ^ p.kmer) counts (drop j (window ring w.head (w.len - 1)))) (sym l_is) (k.counted on))

    pub told_none : (counts' : List ℕ) (r : Option Scanned) → IfNone r (Touched counts' (drop l (window ring w.head w.len))) → IfNone r (Clearing w (window ring w.head w.len) counts')
    told_none counts' (Some r) t = tt
    told_none counts' None t =
        record {
          touched = λ _. (omega (arith, l_is, asks.0), subst (λ (j : ℕ). Touched counts' (drop j (window ring w.head w.len))) l_is t);
          clear = λ off. absurd (true≢false (sym (a.known.live on) ∙ off));
        }

  pub none_carried : Clearing w (window ring w.head w.len) counts
  none_carried = clearing a.known a.windowed refl a.counts_is
