-- The checks of a sequence are the first ones of a request.
use Rattle.std.proofs.Common.{◌≡◌, ◌≢◌, refl, sym, ap₂, ◌∙◌, true≢false, ℕ, ◌<◌, ◌≤◌, Bool, true, false, ◌||◌, cond, ltb, List, [], ◌∷◌, ◌++◌, drop, length, arith}
use borrow.Author.Tests.{ltb-false}
use Rattle.scans.proofs.Test.{neither}
use Rattle.checks.specs.Checks.{Check, first}
use Rattle.checks.specs.Sequence.{sequence_checks}
use Rattle.checks.specs.Tests.{kmer_outside, window_above}
use Rattle.checks.proofs.Passing.{passes}
use Rattle.longdust.specs.declared.LongdustOptions.{LongdustOptions}
use Rattle.longdust.specs.Checks.{checks, refusal}
use Rattle.longdust.proofs.Accept.{admitted}
use Rattle.masker.specs.Run.{listed, record_refusal}

first_more : (cs ds : List Check) → 0 < first cs → first (cs ++ ds) ≡ first cs
first_more [] ds h = absurd (let z : ⊥ = omega arith in z)
first_more (c ∷ cs) ds h = go c.fails (λ g. first_more cs ds g) h
  where
    go : (b : Bool) → (0 < first cs → first (cs ++ ds) ≡ first cs) → 0 < cond b c.number (first cs)
        → cond b c.number (first (cs ++ ds)) ≡ cond b c.number (first cs)
    go true ih g = refl
    go false ih g = ih g

module _ (o : LongdustOptions) (s : List ℕ) where
  pub refused_first : (n : ℕ) → 0 < n → n ≡ first (sequence_checks s o.kmer o.window_size) → n ≡ record_refusal o s
  unfolding record_refusal
  refused_first n h e =
      e ∙ sym (first_more (sequence_checks s o.kmer o.window_size) (drop 6 (checks o s (listed o (length s))))
      (let z : 0 < first (sequence_checks s o.kmer o.window_size) = omega (arith, e, h) in z))

  module _ (e : first (sequence_checks s o.kmer o.window_size) ≡ 0) where
    pub kmer_high : o.kmer ≤ 12
    kmer_high = ltb-false 12 o.kmer (neither (ltb o.kmer 1) (ltb 12 o.kmer) (passes (sequence_checks s o.kmer o.window_size) refl e 0)).1

    pub window_high : o.window_size ≤ 65535
    window_high = ltb-false 65535 o.window_size (passes (sequence_checks s o.kmer o.window_size) refl e 5)

  refused_outside : (kmer_outside o.kmer || window_above o.window_size) ≡ true → first (sequence_checks s o.kmer o.window_size) ≢ 0
  refused_outside h e =
      let k : kmer_outside o.kmer ≡ false = passes (sequence_checks s o.kmer o.window_size) refl e 0 in
      let w : window_above o.window_size ≡ false = passes (sequence_checks s o.kmer o.window_size) refl e 5 in
      true≢false (sym h ∙ ap₂ (λ (x y : Bool). x || y) k w)

  pub refused_early : (kmer_outside o.kmer || window_above o.window_size) ≡ true → (n : ℕ) → n ≡ first (sequence_checks s o.kmer o.window_size)
      → n ≡ record_refusal o s
  refused_early h n e = let some : n ≢ 0 = λ z. refused_outside h (sym e ∙ z) in refused_first n (omega (arith, some)) e

  pub accepted_bounds : record_refusal o s ≡ 0 → (o.kmer ≤ 12) × (o.window_size ≤ 65535)
  unfolding record_refusal
  accepted_bounds e = let b = (admitted o s (listed o (length s)) e).bounds in (b.kmer_high, b.window_high)

  pub refusal_is : refusal o s (listed o (length s)) ≡ record_refusal o s
  unfolding record_refusal
  refusal_is = refl
