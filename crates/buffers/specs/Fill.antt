-- Terms of contracts: what a lent buffer holds after something was written to it.
use Rattle.std.specs.Prelude.{ℕ, zero, suc, List, [], ◌∷◌, ◌++◌, length, take, drop}

-- The buffer d with xs over its front.
abbrev pub put {ℓ} : {A : Type ℓ} → List A → List A → List A
put xs d = xs ++ drop (length xs) d

-- The buffer d with xs written from index i on.
abbrev pub put_at {ℓ} : {A : Type ℓ} → ℕ → List A → List A → List A
put_at i xs d = take i d ++ put xs (drop i d)

-- The n values f i, f (i + 1) ..
unfoldable pub tabulate_from {ℓ} : {A : Type ℓ} → (ℕ → A) → ℕ → ℕ → List A
tabulate_from f zero i = []
tabulate_from f (suc n) i = f i ∷ tabulate_from f n (suc i)

-- f 0, f 1 .. f (n - 1)
unfoldable pub tabulate {ℓ} : {A : Type ℓ} → (ℕ → A) → ℕ → List A
tabulate f n = tabulate_from f n 0
