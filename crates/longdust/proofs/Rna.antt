-- The request 'RNA letters': a sequence and the same with T for U have the same refusal, the same mask with the same marks and the same tables; the flag goes by options and tables alone.
use Rattle.std.proofs.Common.{◌≡◌, refl, ap, ap₂, ℕ, Bool, true, false, cond, eqb, List, [], ◌∷◌, ◌||◌, Float, length, eqb-true}
use lib.ListN.{length-map}
use Rattle.letters.specs.Code.{codes}
use Rattle.letters.specs.Rna.{t_for_u, with_t}
use Rattle.letters.proofs.Rna.{same_codes}
use Rattle.checks.specs.Tests.{any_byte, is_high, is_other}
use Rattle.tables.specs.declared.GcOption.{GcOption}
use Rattle.tables.specs.Density.{density}
use Rattle.longdust.specs.declared.LongdustOptions.{LongdustOptions}
use Rattle.longdust.specs.declared.Lent.{Lent}
use Rattle.longdust.specs.Checks.{refusal}
use Rattle.longdust.specs.Mask.{setup, mask, marked_mask}
use Rattle.mask.specs.Mask.{mask_of, marked_mask_of}

pub rna_mask : (o : LongdustOptions) (s : List ℕ) (ln f : List Float) → mask o (with_t s) ln f ≡ mask o s ln f
unfolding mask
rna_mask o s ln f = ap (λ (cs : List ℕ). mask_of (setup o ln f) o.forward_only cs) (same_codes s)

pub rna_marked_mask : (o : LongdustOptions) (s : List ℕ) (ln f : List Float) → marked_mask o (with_t s) ln f ≡ marked_mask o s ln f
unfolding marked_mask
rna_marked_mask o s ln f = ap (λ (cs : List ℕ). marked_mask_of (setup o ln f) o.forward_only cs) (same_codes s)

pub rna_density : (k : ℕ) (gc : GcOption) (s : List ℕ) → density k gc (codes (with_t s)) ≡ density k gc (codes s)
rna_density k gc s = ap (λ (cs : List ℕ). density k gc cs) (same_codes s)

-- A test that takes U as it takes T, and u as t.
module _ (test : ℕ → Bool) (upper : test 84 ≡ test 85) (lower : test 116 ≡ test 117) where
  test_same : (b : ℕ) → test (t_for_u b) ≡ test b
  unfolding t_for_u
  test_same b = go (eqb b 85) (eqb b 117) refl refl
    where
      go : (p q : Bool) → eqb b 85 ≡ p → eqb b 117 ≡ q → test (cond p 84 (cond q 116 b)) ≡ test b
      go true q e d = rw (eqb-true b 85 e) upper
      go false true e d = rw (eqb-true b 117 d) lower
      go false false e d = refl

  any_same : (s : List ℕ) → any_byte test (with_t s) ≡ any_byte test s
  unfolding any_byte with_t
  any_same [] = refl
  any_same (b ∷ s) = ap₂ ◌||◌ (test_same b) (any_same s)

same_length : (s : List ℕ) → length (with_t s) ≡ length s
unfolding with_t
same_length s = length-map s t_for_u

pub rna_refusal : (o : LongdustOptions) (s : List ℕ) (b : Lent) → refusal o (with_t s) b ≡ refusal o s b
rna_refusal o s b = rw (any_same is_high refl refl s, any_same is_other refl refl s, same_length s)
