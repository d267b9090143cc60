-- The digits of a word: one more, and how large their value is.
use Rattle.std.proofs.Common.{◌≡◌, ℕ, zero, suc, ◌+◌, ◌*◌, ◌^◌, ◌<◌, ◌≤◌, List, [], ◌∷◌, length, take, get_or, refl, sym, arith, add-one, pow-add, pow_mono, ◌-◌, ◌%◌, ◌∙◌, ap, mod-eq_of_lt, shl_lt, subst}
use Rattle.std.proofs.lemmas.List.{get_or_past}
use Rattle.replay.specs.Words.{digit_of, decimal, hex}

pub decimal_none : (xs : List ℕ) → 0 ≡ decimal 0 (take 0 xs)
unfolding decimal
decimal_none xs = refl

decimal_on : (n : ℕ) (xs : List ℕ) (i : ℕ) → i < length xs → decimal n (take (suc i) xs) ≡ decimal n (take i xs) * 10 + digit_of (get_or xs i 0)
unfolding decimal
decimal_on n [] i h = absurd (let b : ⊥ = omega arith in b)
decimal_on n (x ∷ xs) zero h = refl
decimal_on n (x ∷ xs) (suc i) h = decimal_on (n * 10 + digit_of x) xs i (omega arith)

pub decimal_more : (xs : List ℕ) (i n d : ℕ) → i < length xs → n ≡ decimal 0 (take i xs) → d ≡ digit_of (get_or xs i 0)
    → n * 10 + d ≡ decimal 0 (take (i + 1) xs)
decimal_more xs i n d h e f = rw (e, f, add-one) (sym (decimal_on 0 xs i h))

pub hex_none : (xs : List ℕ) → 0 ≡ hex xs 0
unfolding hex
hex_none xs = refl

pub hex_more : (xs : List ℕ) (i n d : ℕ) → n ≡ hex xs i → d ≡ digit_of (get_or xs i 48) → n * 16 + d ≡ hex xs (i + 1)
unfolding hex
hex_more xs i n d e f = rw (e, f, add-one) refl

pub hex_small : (i n d : ℕ) → n < 2 ^ (4 * i) → d < 16 → n * 16 + d < 2 ^ (4 * (i + 1))
hex_small i n d h k =
    let e : 4 * (i + 1) ≡ 4 * i + 4 = omega arith in
    rw (e, pow-add 2 (4 * i) 4) (omega arith)

pub hex_fits : (i n d : ℕ) → i < 16 → n < 2 ^ (4 * i) → d < 16 → n * 16 + d < 18446744073709551616
hex_fits i n d h k l =
    let most : 2 ^ (4 * (i + 1)) ≤ 18446744073709551616 = pow_mono {i = 4 * (i + 1)} {j = 64} (omega arith) in
    omega (arith, hex_small i n d k l)

-- Past its end a word has zeros.
zero_past : (xs : List ℕ) (i : ℕ) → length xs ≤ i → 0 ≡ digit_of (get_or xs i 48)
unfolding digit_of
zero_past xs i h = rw (get_or_past xs i 48 h) refl

hex_zeros : (xs : List ℕ) (k : ℕ) → hex xs (length xs + k) ≡ hex xs (length xs) * 2 ^ (4 * k)
hex_zeros xs zero = let e : length xs + 0 ≡ length xs = omega arith in rw e (omega arith)
hex_zeros xs (suc k) =
    let e : length xs + suc k ≡ length xs + k + 1 = omega arith in
    let f : 4 * suc k ≡ 4 * k + 4 = omega arith in
    let z : 0 ≡ digit_of (get_or xs (length xs + k) 48) = zero_past xs (length xs + k) (omega arith) in
    rw (e, f, pow-add 2 (4 * k) 4) (omega (arith, hex_zeros xs k, hex_more xs (length xs + k) (hex xs (length xs + k)) 0 refl z))

pub hex_whole : (xs : List ℕ) (i n : ℕ) → i ≤ length xs → length xs ≤ i → length xs ≤ 16 → n ≡ hex xs i → n < 2 ^ (4 * i)
    → n * 2 ^ (4 * (16 - length xs)) % 18446744073709551616 ≡ hex xs 16
hex_whole xs i n g h k e small =
    let q : i ≡ length xs = omega arith in
    let v : n ≡ hex xs (length xs) = e ∙ ap (λ (j : ℕ). hex xs j) q in
    let l : length xs + (16 - length xs) ≡ 16 = omega arith in
    let b : 4 * i + 4 * (16 - length xs) ≡ 64 = omega arith in
    let fits : n * 2 ^ (4 * (16 - length xs)) < 2 ^ 64 = subst (λ (j : ℕ). n * 2 ^ (4 * (16 - length xs)) < 2 ^ j) b (shl_lt (4 * i) (4 * (16 - length xs)) small) in
    mod-eq_of_lt fits ∙ ap (λ (m : ℕ). m * 2 ^ (4 * (16 - length xs))) v ∙ sym (hex_zeros xs (16 - length xs)) ∙ ap (λ (j : ℕ). hex xs j) l
