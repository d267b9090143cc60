-- The request 'Letter codes by cases': all 256 bytes, ticked off at once.
use Rattle.std.proofs.Common.{◌≡◌, ℕ, zero, suc, cond, eqb, List, [], ◌∷◌, length, refl}
use Rattle.letters.specs.Code.{letter, code}

-- The bytes from b on, n of them, that have code c.
unfoldable pub with_code : ℕ → ℕ → ℕ → List ℕ
with_code c zero b = []
with_code c (suc n) b = cond (eqb (code b) c) (b ∷ with_code c n (suc b)) (with_code c n (suc b))

pub bytes_0 : with_code 0 256 0 ≡ letter "A" ∷ letter "a" ∷ []
unfolding code with_code
bytes_0 = refl

pub bytes_1 : with_code 1 256 0 ≡ letter "C" ∷ letter "c" ∷ []
unfolding code with_code
bytes_1 = refl

pub bytes_2 : with_code 2 256 0 ≡ letter "G" ∷ letter "g" ∷ []
unfolding code with_code
bytes_2 = refl

pub bytes_3 : with_code 3 256 0 ≡ letter "T" ∷ letter "U" ∷ letter "t" ∷ letter "u" ∷ []
unfolding code with_code
bytes_3 = refl

-- The other 246: with the ten above that is every byte.
pub bytes_4 : length (with_code 4 256 0) ≡ 246
unfolding code with_code
bytes_4 = refl
