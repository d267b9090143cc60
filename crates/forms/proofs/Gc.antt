-- The letters that are counted are those of the masker: its codes C and G, and its codes below 4.
use Rattle.std.proofs.Common.{◌≡◌, ℕ, Bool, true, false, cond, ◌||◌, eqb, ltb, List, [], ◌∷◌, map, refl, sym, ap₂, ◌∙◌, subst, eqb-true}
use Rattle.std.specs.Prelude.{◌+◌}
use Rattle.std.specs.List.{count_by}
use Rattle.std.proofs.lemmas.List.Sums.{sum_by-cons}
use Rattle.letters.specs.Code.{code, codes}
use Rattle.letters.specs.Gc.{gc_count as gc_codes, acgt_count as acgt_codes}
use Rattle.forms.specs.Counts.{is_gc, is_acgt, gc_count, acgt_count}

-- What holds of the ten letters, and of a byte that is none of them, holds of all.
module _ (P : ℕ → Type 0) where
  by_byte : (b n : ℕ) → P n → (eqb b n ≡ false → P b) → P b
  by_byte b n p other = go (eqb b n) refl
    where
      go : (t : Bool) → eqb b n ≡ t → P b
      go true e = subst P (sym (eqb-true b n e)) p
      go false e = other e

abbrev GcAt : ℕ → Type 0
GcAt x = (eqb (code x) 1 || eqb (code x) 2) ≡ is_gc x

abbrev AcgtAt : ℕ → Type 0
AcgtAt x = ltb (code x) 4 ≡ is_acgt x

gc_at : (b : ℕ) → GcAt b
unfolding code
gc_at b =
    by_byte GcAt b 65 refl (λ a. by_byte GcAt b 97 refl (λ c. by_byte GcAt b 67 refl (λ d. by_byte GcAt b 99 refl (λ e. by_byte GcAt b 71 refl (λ f. by_byte GcAt b 103 refl
    (λ g. by_byte GcAt b 84 refl (λ h. by_byte GcAt b 116 refl (λ i. by_byte GcAt b 85 refl (λ j. by_byte GcAt b 117 refl (λ k. rw (a, c, d, e, f, g, h, i, j, k) refl))))))))))

acgt_at : (b : ℕ) → AcgtAt b
unfolding code
acgt_at b =
    by_byte AcgtAt b 65 refl (λ a. by_byte AcgtAt b 97 refl (λ c. by_byte AcgtAt b 67 refl (λ d. by_byte AcgtAt b 99 refl (λ e. by_byte AcgtAt b 71 refl (λ f. by_byte AcgtAt b 103 refl
    (λ g. by_byte AcgtAt b 84 refl (λ h. by_byte AcgtAt b 116 refl (λ i. by_byte AcgtAt b 85 refl (λ j. by_byte AcgtAt b 117 refl (λ k. rw (a, c, d, e, f, g, h, i, j, k) refl))))))))))

-- Counted by codes or by letters.
by_codes : (t p : ℕ → Bool) → ((b : ℕ) → t (code b) ≡ p b) → (s : List ℕ) → count_by t (map code s) ≡ count_by p s
by_codes t p e [] = refl
by_codes t p e (b ∷ s) =
    sum_by-cons (λ (x : ℕ). cond (t x) 1 0) (code b) (map code s)
    ∙ ap₂ (λ (x : Bool) (n : ℕ). cond x 1 0 + n) (e b) (by_codes t p e s)
    ∙ sym (sum_by-cons (λ (x : ℕ). cond (p x) 1 0) b s)

pub gc_is : (s : List ℕ) → gc_codes (codes s) ≡ gc_count s
unfolding codes
gc_is s = by_codes (λ c. eqb c 1 || eqb c 2) is_gc gc_at s

pub acgt_is : (s : List ℕ) → acgt_codes (codes s) ≡ acgt_count s
unfolding codes
acgt_is s = by_codes (λ c. ltb c 4) is_acgt acgt_at s
