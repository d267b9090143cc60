-- A sequence and the same with T for U have the same codes.
use Rattle.std.proofs.Common.{◌≡◌, ℕ, Bool, true, false, cond, eqb, List, [], ◌∷◌, refl, ap₂, eqb-true}
use Rattle.letters.specs.Code.{code, codes}
use Rattle.letters.specs.Rna.{t_for_u, with_t}

same_code : (b : ℕ) → code (t_for_u b) ≡ code b
unfolding t_for_u code
same_code b = go (eqb b 85) (eqb b 117) refl refl
  where
    go : (upper lower : Bool) → eqb b 85 ≡ upper → eqb b 117 ≡ lower → code (cond upper 84 (cond lower 116 b)) ≡ code b
    go true lower p q = rw (eqb-true b 85 p)
    go false true p q = rw (eqb-true b 117 q)
    go false false p q = refl

pub same_codes : (s : List ℕ) → codes (with_t s) ≡ codes s
unfolding codes with_t
same_codes [] = refl
same_codes (b ∷ s) = ap₂ ◌∷◌ (same_code b) (same_codes s)
