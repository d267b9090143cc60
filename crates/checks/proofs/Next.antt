-- Checks run one after another give the first that fails.
use Rattle.std.proofs.Common.{◌≡◌, refl, sym, Bool, true, false, cond, true≢false, List, [], ◌∷◌, ℕ, eqb}
use Rattle.checks.specs.Checks.{Check, check, first}
use Rattle.checks.specs.Terms.Next.{next_check}
use Rattle.checks.proofs.Passing.{numbered}

-- The refusal after the checks, where r is that of those before.
abbrev pub onward : ℕ → List Check → ℕ
onward r [] = r
onward r (c ∷ cs) = onward (next_check r c.number c.fails) cs

refused : (r : ℕ) (cs : List Check) → eqb r 0 ≡ false → onward r cs ≡ r
unfolding next_check
refused r [] e = refl
refused r (c ∷ cs) e = rw e (refused r cs e)

-- The first that fails decides, whatever the list.
pub checked : (cs : List Check) → numbered cs ≡ true → onward 0 cs ≡ first cs
unfolding next_check
checked [] n = refl
checked (c ∷ cs) n = go c.fails (eqb c.number 0) refl n (λ m. checked cs m)
  where
    go : (b z : Bool) → eqb c.number 0 ≡ z → cond z false (numbered cs) ≡ true → (numbered cs ≡ true → onward 0 cs ≡ first cs)
        → onward (next_check 0 c.number b) cs ≡ first (check c.number b ∷ cs)
    go b true e n' rest = absurd (true≢false (sym n'))
    go true false e n' rest = refused c.number cs e
    go false false e n' rest = rest n'
