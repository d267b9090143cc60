-- The words of the list: the value of a digit, of a number and of the bits of a float, and what is left after a word.
use Rattle.std.specs.Prelude.{ℕ, zero, suc, ◌+◌, ◌-◌, ◌*◌, ◌≤◌, ◌≡◌, Bool, true, ◌&&◌, ◌||◌, cond, List, [], ◌∷◌, Float, length, take, drop, get_or, eqb, leb}
use Rattle.std.specs.Float.{binary64}
use Rattle.std.specs.Float.Ieee.{of_bits}

-- The value of a hex digit, 16 for any other byte.
unfoldable pub digit_of : ℕ → ℕ
digit_of b = cond (leb 48 b && leb b 57) (b - 48) (cond (leb 97 b && leb b 102) (b - 97 + 10) 16)

-- A space or a newline ends a word.
abbrev pub ends_word : ℕ → Bool
ends_word byte = eqb byte 32 || eqb byte 10

-- The value of decimal digits that come after a number.
unfoldable pub decimal : ℕ → List ℕ → ℕ
decimal n [] = n
decimal n (b ∷ word) = decimal (n * 10 + digit_of b) word

-- The value of the first hex digits of a word, which ends in zeros (48) where it is shorter.
unfoldable pub hex : List ℕ → ℕ → ℕ
hex word zero = 0
hex word (suc i) = hex word i * 16 + digit_of (get_or word i 48)

-- The word is the next one, and what is left comes after the byte that ends it.
pub record Reads (old new word : List ℕ) : Type 0 where
  pub some : 1 ≤ length word
  pub front : word ≡ take (length word) old
  pub ended : ends_word (get_or old (length word) 0) ≡ true
  pub rest : new ≡ drop (length word + 1) old

pub record ReadsNumber (old new : List ℕ) (n : ℕ) : Type 0 where
  pub word : List ℕ
  pub next : Reads old new word
  pub value : n ≡ decimal 0 word

pub record ReadsBits (old new : List ℕ) (bits : ℕ) : Type 0 where
  pub word : List ℕ
  pub next : Reads old new word
  pub value : bits ≡ hex word 16

pub record ReadsFloat (old new : List ℕ) (x : Float) : Type 0 where
  pub bits : ℕ
  pub next : ReadsBits old new bits
  pub value : x ≡ of_bits binary64 bits

-- What is left later comes after the end of a word, or nothing was read between.
pub record Follows (old new : List ℕ) : Type 0 where
  pub read : ℕ
  pub rest : new ≡ drop read old
  pub ended : (i : ℕ) → i + 1 ≡ read → ends_word (get_or old i 0) ≡ true
