-- max_test, a turn at a time.
use Rattle.std.proofs.Common.{◌≡◌, sym, ap, ◌∙◌, subst, true, false, List, ℕ, suc, ◌+◌, ◌-◌, ◌≤◌, ◌<◌, add-one, arith, get_or, ℤ, pos, Float}
use lib.Ieee.{nan, lt, to_signed}
use lib.Ieee.Casts.{to_signed_in}
use Rattle.floats.specs.Arithmetic.{◌⊕◌, ◌⊖◌, ◌⊗◌, ◌⊘◌}
use mir.Syntax.{w32}
use mir.Val.{SFits, to_z, of_z}
use mir.Facts.{to_z-of_z}
use Rattle.floats.specs.Binary64.{zero64, number}
use Rattle.scans.specs.Setup.{max_test_from, max_test}

-- With entries i to w left, the rest of the search answers as the whole of it.
module _ (ln f : List Float) (w : ℕ) (t : Float) where
  pub testing_start : max_test w t ln f ≡ max_test_from t ln f (w + 1 - 1) 1 zero64
  unfolding max_test
  testing_start = ap (λ (m : ℕ). max_test_from t ln f m 1 zero64) (let e : w ≡ w + 1 - 1 = omega arith in e)

  module _ (s : Float) (i : ℕ) (whole : max_test w t ln f ≡ max_test_from t ln f (w + 1 - i) i s) where
    pub testing_end : w + 1 ≤ i → pos 0 ≡ max_test w t ln f
    unfolding max_test_from
    testing_end h =
        let z : w + 1 - i ≡ 0 = omega arith in
        sym (whole ∙ rw z)

    module _ (h : i < w + 1) where
      abbrev s' : Float
      s' = s ⊕ (get_or ln i nan ⊖ t)

      more : w + 1 - i ≡ suc (w + 1 - (i + 1))
      more = omega arith

      pub testing_turn : lt zero64 (s' ⊖ get_or f i nan) ≡ false → max_test w t ln f ≡ max_test_from t ln f (w + 1 - (i + 1)) (i + 1) s'
      unfolding max_test_from
      testing_turn on = whole ∙ ap (λ (m : ℕ). max_test_from t ln f m i s) more ∙ rw (on, add-one i)

      -- A signed answer r goes through its bits.
      pub testing_found : (r : ℤ) → r ≡ to_signed 31 (number i ⊗ get_or ln i nan ⊘ t) → lt zero64 (s' ⊖ get_or f i nan) ≡ true
          → to_z w32 (of_z w32 r) ≡ max_test w t ln f
      unfolding max_test_from
      testing_found r e over =
          to_z-of_z (subst (SFits w32) (sym e) (record { sfits = to_signed_in 31 (number i ⊗ get_or ln i nan ⊘ t) })) ∙ e
          ∙ sym (whole ∙ ap (λ (m : ℕ). max_test_from t ln f m i s) more ∙ rw over)

pub ruleset of_testing = (testing_start, testing_turn, testing_found, testing_end)
