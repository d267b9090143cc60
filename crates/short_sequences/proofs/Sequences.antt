-- The list of all sequences: how many there are, which one stands at an index, which are in it, and that none comes twice.
use Rattle.std.proofs.Common.{◌≡◌, refl, sym, ap, ap₂, subst, ◌∙◌, cond, List, [], ◌∷◌, ℕ, zero, suc, ◌+◌, ◌*◌, ◌/◌, ◌%◌, ◌^◌, ◌≤◌, ◌<◌, pow-suc, div-lt_iff_lt-mul, mod-lt, div-add-mod', arith, eqb, length, get_or}
use mathlib.Core.List.Memᴰ
use mathlib.Core.List.{Memᴰ, head-eq_of_cons-eq, tail-eq_of_cons-eq}
use native.Mathlib.Nat.{one-le-pow, pow-le-pow_right}
use Rattle.short_sequences.specs.Sequences.{five_letters, sequences_of, OverFive}
use Rattle.short_sequences.specs.Terms.Outcome.{letter_at}
use Rattle.short_sequences.proofs.Blocks.{blocks_length, blocks_at, in_blocks, of_blocks}

pub five_power : (m : ℕ) → 5 ^ suc m ≡ 5 * 5 ^ m
five_power m = omega (arith, pow-suc 5 m)

pub some_sequence : (m : ℕ) → 0 < 5 ^ m
some_sequence m = omega (arith, one-le-pow m 5 (omega arith))

pub few_sequences : (m : ℕ) → m ≤ 8 → 5 ^ m ≤ 390625
few_sequences m h = pow-le-pow_right {n = 5} (omega arith) {i = m} {j = 8} h

-- There are 5^m of them.
pub sequences_count : (m : ℕ) → length (sequences_of m) ≡ 5 ^ m
unfolding sequences_of
sequences_count zero = refl
sequences_count (suc m) = blocks_length (sequences_of m) five_letters ∙ omega (arith, sequences_count m, five_power m)

-- An index of one letter more, taken apart in base five.
module _ (m i : ℕ) (h : i < 5 ^ suc m) where
  pub digit_small : i / 5 ^ m < 5
  digit_small = (div-lt_iff_lt-mul {k = 5 ^ m} {x = i} {y = 5} (some_sequence m)).1 (omega (arith, five_power m))

  pub rest_small : i % 5 ^ m < 5 ^ m
  rest_small = mod-lt i (some_sequence m)

  pub sequence_at : get_or (sequences_of (suc m)) i [] ≡ letter_at (i / 5 ^ m) ∷ get_or (sequences_of m) (i % 5 ^ m) []
  unfolding sequences_of
  sequence_at =
      let n = sequences_count m in
      blocks_at (sequences_of m) (omega (arith, some_sequence m)) five_letters i 78 (omega (arith, five_power m))
      ∙ ap (λ (p : ℕ). letter_at (i / p) ∷ get_or (sequences_of m) (i % p) []) n

-- Each has m letters.
pub sequence_size : (m i : ℕ) → i < 5 ^ m → length (get_or (sequences_of m) i []) ≡ m
unfolding sequences_of
sequence_size zero i h = let e : i ≡ 0 = omega arith in rw e
sequence_size (suc m) i h = ap length (sequence_at m i h) ∙ ap suc (sequence_size m (i % 5 ^ m) (rest_small m i h))

-- Every sequence over the five letters is among those of its size, and nothing else is.
pub every_sequence : (s : List ℕ) → OverFive s → Memᴰ s (sequences_of (length s))
unfolding sequences_of
every_sequence [] o = Memᴰ.head refl
every_sequence (x ∷ s) o = in_blocks (sequences_of (length s)) five_letters o.0 (every_sequence s o.1)

pub nothing_else : (m : ℕ) (s : List ℕ) → Memᴰ s (sequences_of m) → (length s ≡ m) × OverFive s
unfolding sequences_of
nothing_else zero s h =
    subst (λ (t : List ℕ). (length t ≡ 0) × OverFive t) (sym (Memᴰ.eq_of_singleton h)) (refl, tt)
nothing_else (suc m) s h =
    let r = of_blocks (sequences_of m) five_letters h in
    let k = nothing_else m r.1 r.3 in
    subst (λ (t : List ℕ). (length t ≡ suc m) × OverFive t) r.4 (ap suc k.0, (r.2, k.1))

-- The five letters differ: each has its digit.
abbrev digit_of : ℕ → ℕ
digit_of x = cond (eqb x 65) 0 (cond (eqb x 67) 1 (cond (eqb x 71) 2 (cond (eqb x 84) 3 4)))

digit_back : (i : ℕ) → i < 5 → digit_of (letter_at i) ≡ i
digit_back zero h = refl
digit_back (suc zero) h = refl
digit_back (suc (suc zero)) h = refl
digit_back (suc (suc (suc zero))) h = refl
digit_back (suc (suc (suc (suc zero)))) h = refl
digit_back (suc (suc (suc (suc (suc i))))) h = absurd (let b : ⊥ = omega arith in b)

digit_of_lem : (i j : ℕ) → i < 5 → j < 5 → letter_at i ≡ letter_at j → i ≡ j
digit_of_lem i j h k e = sym (digit_back i h) ∙ ap digit_of e ∙ digit_back j k

-- At two indices stand two sequences.
pub none_twice : (m i j : ℕ) → i < 5 ^ m → j < 5 ^ m → get_or (sequences_of m) i [] ≡ get_or (sequences_of m) j [] → i ≡ j
none_twice zero i j h k e = omega arith
none_twice (suc m) i j h k e =
    let both = sym (sequence_at m i h) ∙ e ∙ sequence_at m j k in
    let q : i / 5 ^ m ≡ j / 5 ^ m = digit_of_lem _ _ (digit_small m i h) (digit_small m j k) (head-eq_of_cons-eq both) in
    let r : i % 5 ^ m ≡ j % 5 ^ m = none_twice m _ _ (rest_small m i h) (rest_small m j k) (tail-eq_of_cons-eq both) in
    sym (div-add-mod' i (5 ^ m)) ∙ ap₂ (λ (a b : ℕ). a * 5 ^ m + b) q r ∙ div-add-mod' j (5 ^ m)

-- The laws by which `count_sequences` is proved.
pub ruleset few = (few_sequences)
