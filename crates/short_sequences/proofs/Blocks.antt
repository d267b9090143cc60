-- A list made of blocks: for each of some letters in turn, a block of sequences with that letter before each.
use Rattle.std.proofs.Common.{◌≡◌, refl, ap, ap₂, ◌∙◌, ⊎_elim, List, [], ◌∷◌, ◌++◌, map, ℕ, suc, ◌+◌, ◌-◌, ◌*◌, ◌/◌, ◌%◌, ◌<◌, suc-mul, mod-eq_of_lt, add-one, arith, length, get_or, length-append, get_or-append-add}
use mathlib.Core.List.{flat_map, Memᴰ}
use native.Mathlib.Nat.{div-eq_of_lt, add-div_left, add-mod_left}
use lib.ListN.{length-map, get_or-append, get_or-map}
use Rattle.buffers.proofs.At.{default_free}
use Rattle.intervals.proofs.Order.{lt_or_le}

-- The block of a letter, and the list of all blocks.
abbrev pub block : List (List ℕ) → ℕ → List (List ℕ)
block ss x = map (λ s. x ∷ s) ss

abbrev pub blocks : List (List ℕ) → List ℕ → List (List ℕ)
blocks ss xs = flat_map (λ x. map (λ s. x ∷ s) ss) xs

module _ (ss : List (List ℕ)) where
  block_length : (x : ℕ) → length (block ss x) ≡ length ss
  block_length x = length-map ss (λ s. x ∷ s)

  pub blocks_length : (xs : List ℕ) → length (blocks ss xs) ≡ length xs * length ss
  unfolding flat_map
  blocks_length [] = omega arith
  blocks_length (x ∷ xs) =
      length-append (block ss x) (blocks ss xs)
      ∙ ap₂ (λ (a b : ℕ). a + b) (block_length x) (blocks_length xs)
      ∙ omega (arith, suc-mul (length xs) (length ss))

  in_block : (x i : ℕ) → i < length ss → get_or (block ss x) i [] ≡ x ∷ get_or ss i []
  in_block x i h =
      default_free (block ss x) i [] (x ∷ []) (let e : i < length (block ss x) = omega (arith, block_length x) in e)
      ∙ get_or-map (λ s. x ∷ s) ss i []

  -- Entry i: the letter of block i / size, before entry i % size of the shorter sequences.
  pub blocks_at : 0 < length ss → (xs : List ℕ) (i z : ℕ) → i < length xs * length ss
      → get_or (blocks ss xs) i [] ≡ get_or xs (i / length ss) z ∷ get_or ss (i % length ss) []
  unfolding flat_map
  blocks_at some [] i z h = absurd (let b : ⊥ = omega arith in b)
  blocks_at some (x ∷ xs) i z h =
      ⊎_elim
      (λ l.
      get_or-append (block ss x) (blocks ss xs) [] i (omega (arith, block_length x))
      ∙ in_block x i l
      ∙ rw (div-eq_of_lt l, mod-eq_of_lt l))
      (λ l.
      let j : ℕ = i - length ss in
      let e : i ≡ length ss + j = omega arith in
      let k : j < length xs * length ss = omega (arith, suc-mul (length xs) (length ss)) in
      let q : i / length ss ≡ suc (j / length ss) = ap (λ (n : ℕ). n / length ss) e ∙ add-div_left j some ∙ add-one (j / length ss) in
      let r : i % length ss ≡ j % length ss = ap (λ (n : ℕ). n % length ss) e ∙ add-mod_left (length ss) j in
      ap (λ (n : ℕ). get_or (block ss x ++ blocks ss xs) n []) (let f : i ≡ length (block ss x) + j = omega (arith, block_length x) in f)
      ∙ get_or-append-add (block ss x) (blocks ss xs) j []
      ∙ blocks_at some xs j z k
      ∙ rw (q, r))
      (lt_or_le i (length ss))

  -- What is in it: a letter before a shorter sequence.
  pub in_blocks : {x : ℕ} {s : List ℕ} (xs : List ℕ) → Memᴰ x xs → Memᴰ s ss → Memᴰ (x ∷ s) (blocks ss xs)
  unfolding flat_map
  in_blocks [] h k = absurd (mathlib.Core.List.Memᴰ.not-nil h)
  in_blocks {x} {s} (y ∷ xs) h k =
      ⊎_elim
      (λ (e : x ≡ y). mathlib.Core.List.Memᴰ.append_left (blocks ss xs) (mathlib.Core.List.Memᴰ.cast (ap (λ (n : ℕ). n ∷ s) e) (mathlib.Core.List.Memᴰ.map (λ t. y ∷ t) k)))
      (λ (m : Memᴰ x xs). mathlib.Core.List.Memᴰ.append_right (block ss y) (in_blocks xs m k))
      (mathlib.Core.List.Memᴰ.cases_cons h)

  pub of_blocks : {s : List ℕ} (xs : List ℕ) → Memᴰ s (blocks ss xs)
      → (x : ℕ) × (t : List ℕ) × Memᴰ x xs × Memᴰ t ss × (x ∷ t ≡ s)
  unfolding flat_map
  of_blocks [] h = absurd (mathlib.Core.List.Memᴰ.not-nil h)
  of_blocks {s} (y ∷ xs) h =
      ⊎_elim
      (λ (m : Memᴰ s (block ss y)). let r = mathlib.Core.List.Memᴰ.of_map (λ t. y ∷ t) ss m in (y, r.0, mathlib.Core.List.Memᴰ.head refl, r.1, r.2))
      (λ (m : Memᴰ s (blocks ss xs)). let r = of_blocks xs m in (r.0, r.1, mathlib.Core.List.Memᴰ.tail r.2, r.3, r.4))
      (mathlib.Core.List.Memᴰ.append_cases (block ss y) h)
