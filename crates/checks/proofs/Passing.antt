-- Where no check of a list is the first that fails, each passes.
use Rattle.std.proofs.Common.{◌≡◌, refl, sym, ◌∙◌, Bool, true, false, cond, true≢false, List, [], ◌∷◌, ℕ, zero, suc, eqb, get_or}
use borrow.Author.Tests.{eq-eqb}
use Rattle.checks.specs.Checks.{Check, check, first}

-- No check has the number 0.
abbrev pub numbered : List Check → Bool
numbered [] = true
numbered (c ∷ cs) = cond (eqb c.number 0) false (numbered cs)

-- A request that is not refused passes the check at index j.
pub passes : (cs : List Check) → numbered cs ≡ true → first cs ≡ 0 → (j : ℕ) → (get_or cs j (check 0 false)).fails ≡ false
passes [] n h j = refl
passes (c ∷ cs) n h j = go c.fails (eqb c.number 0) refl n h (λ m f i. passes cs m f i) j
  where
    go : (b z : Bool) → eqb c.number 0 ≡ z → cond z false (numbered cs) ≡ true → cond b c.number (first cs) ≡ 0
        → (numbered cs ≡ true → first cs ≡ 0 → (i : ℕ) → (get_or cs i (check 0 false)).fails ≡ false)
        → (i : ℕ) → (get_or (check c.number b ∷ cs) i (check 0 false)).fails ≡ false
    go b true e n' h' rest i = absurd (true≢false (sym n'))
    go true false e n' h' rest i = absurd (true≢false (sym (eq-eqb c.number 0 h') ∙ e))
    go false false e n' h' rest zero = refl
    go false false e n' h' rest (suc i) = rest n' h' i
