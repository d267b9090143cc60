-- Sums as bytes: what was written is read back, and the sums of what was written one after the other are added.
use Rattle.std.proofs.Common.{◌≡◌, ℕ, zero, suc, ◌+◌, ◌*◌, ◌/◌, ◌≤◌, List, [], ◌∷◌, ◌++◌, length, get_or, refl, sym, ap, ap₂, ◌∙◌, arith, append_assoc, append-nil, length-append}
use Rattle.std.proofs.lemmas.List.{get_or_append_left, get_or-append-add}
use Rattle.std.proofs.lemmas.Nat.{from_le_bytes-to_le_bytes_8, div-mul-add}
use Rattle.std.specs.Int.{w64, from_le_bytes}
use Rattle.entries.specs.declared.sums.Sums.{Sums}
use Rattle.entries.specs.Sums.{no_sums, add, number, numbers, number_at, sums_at, first_sums, sums_in}
use Rattle.entries.proofs.Adding.{Within, none_within, add_within, same, add_comm, add_assoc, add_none}

-- Ten numbers, one after the other.
behind : (t a b x y : List ℕ) → a ≡ t ++ x → b ≡ a ++ y → b ≡ t ++ (x ++ y)
behind t a b x y p q = q ∙ ap (λ (l : List ℕ). l ++ y) p ∙ append_assoc t x y

pub ten_numbers : (s : Sums) (t0 t1 t2 t3 t4 t5 t6 t7 t8 t9 t10 : List ℕ) → t1 ≡ t0 ++ number s.records → t2 ≡ t1 ++ number s.refused → t3 ≡ t2 ++ number s.letters → t4 ≡ t3 ++ number s.intervals → t5 ≡ t4 ++ number s.masked → t6 ≡ t5 ++ number s.n → t7 ≡ t6 ++ number s.masked_n → t8 ≡ t7 ++ number s.gc → t9 ≡ t8 ++ number s.acgt → t10 ≡ t9 ++ number s.uneven → t10 ≡ t0 ++ numbers s
unfolding numbers
ten_numbers s t0 t1 t2 t3 t4 t5 t6 t7 t8 t9 t10 e0 e1 e2 e3 e4 e5 e6 e7 e8 e9 =
    let r9 : t10 ≡ t9 ++ number s.uneven = e9 in
    let r8 : t10 ≡ t8 ++ (number s.acgt ++ number s.uneven) = behind t8 t9 t10 (number s.acgt) (number s.uneven) e8 r9 in
    let r7 : t10 ≡ t7 ++ (number s.gc ++ (number s.acgt ++ number s.uneven)) = behind t7 t8 t10 (number s.gc) (number s.acgt ++ number s.uneven) e7 r8 in
    let r6 : t10 ≡ t6 ++ (number s.masked_n ++ (number s.gc ++ (number s.acgt ++ number s.uneven))) = behind t6 t7 t10 (number s.masked_n) (number s.gc ++ (number s.acgt ++ number s.uneven)) e6 r7 in
    let r5 : t10 ≡ t5 ++ (number s.n ++ (number s.masked_n ++ (number s.gc ++ (number s.acgt ++ number s.uneven)))) = behind t5 t6 t10 (number s.n) (number s.masked_n ++ (number s.gc ++ (number s.acgt ++ number s.uneven))) e5 r6 in
    let r4 : t10 ≡ t4 ++ (number s.masked ++ (number s.n ++ (number s.masked_n ++ (number s.gc ++ (number s.acgt ++ number s.uneven))))) = behind t4 t5 t10 (number s.masked) (number s.n ++ (number s.masked_n ++ (number s.gc ++ (number s.acgt ++ number s.uneven)))) e4 r5 in
    let r3 : t10 ≡ t3 ++ (number s.intervals ++ (number s.masked ++ (number s.n ++ (number s.masked_n ++ (number s.gc ++ (number s.acgt ++ number s.uneven)))))) = behind t3 t4 t10 (number s.intervals) (number s.masked ++ (number s.n ++ (number s.masked_n ++ (number s.gc ++ (number s.acgt ++ number s.uneven))))) e3 r4 in
    let r2 : t10 ≡ t2 ++ (number s.letters ++ (number s.intervals ++ (number s.masked ++ (number s.n ++ (number s.masked_n ++ (number s.gc ++ (number s.acgt ++ number s.uneven))))))) = behind t2 t3 t10 (number s.letters) (number s.intervals ++ (number s.masked ++ (number s.n ++ (number s.masked_n ++ (number s.gc ++ (number s.acgt ++ number s.uneven)))))) e2 r3 in
    let r1 : t10 ≡ t1 ++ (number s.refused ++ (number s.letters ++ (number s.intervals ++ (number s.masked ++ (number s.n ++ (number s.masked_n ++ (number s.gc ++ (number s.acgt ++ number s.uneven)))))))) = behind t1 t2 t10 (number s.refused) (number s.letters ++ (number s.intervals ++ (number s.masked ++ (number s.n ++ (number s.masked_n ++ (number s.gc ++ (number s.acgt ++ number s.uneven))))))) e1 r2 in
    let r0 : t10 ≡ t0 ++ (number s.records ++ (number s.refused ++ (number s.letters ++ (number s.intervals ++ (number s.masked ++ (number s.n ++ (number s.masked_n ++ (number s.gc ++ (number s.acgt ++ number s.uneven))))))))) = behind t0 t1 t10 (number s.records) (number s.refused ++ (number s.letters ++ (number s.intervals ++ (number s.masked ++ (number s.n ++ (number s.masked_n ++ (number s.gc ++ (number s.acgt ++ number s.uneven)))))))) e0 r1 in
    r0

-- ---- A number.
back : (n : ℕ) → n ≤ 18446744073709551615 → from_le_bytes w64 (number n) ≡ n
back n h = from_le_bytes-to_le_bytes_8 n (omega arith)

get_at : (xs ys : List ℕ) (i j : ℕ) → j ≡ length xs + i → get_or (xs ++ ys) j 0 ≡ get_or ys i 0
get_at xs ys i j e = ap (λ (n : ℕ). get_or (xs ++ ys) n 0) e ∙ get_or-append-add xs ys i 0

-- Behind other bytes; before others.
number_behind : (xs ys : List ℕ) (i j : ℕ) → j ≡ length xs + i → number_at (xs ++ ys) j ≡ number_at ys i
number_behind xs ys i j e =
    rw (get_at xs ys i j e, get_at xs ys (i + 1) (j + 1) (omega arith), get_at xs ys (i + 2) (j + 2) (omega arith), get_at xs ys (i + 3) (j + 3) (omega arith), get_at xs ys (i + 4) (j + 4) (omega arith), get_at xs ys (i + 5) (j + 5) (omega arith), get_at xs ys (i + 6) (j + 6) (omega arith), get_at xs ys (i + 7) (j + 7) (omega arith)) refl

number_before : (xs ys : List ℕ) (j : ℕ) → j + 8 ≤ length xs → number_at (xs ++ ys) j ≡ number_at xs j
number_before xs ys j h =
    rw (get_or_append_left xs ys 0 j (omega arith), get_or_append_left xs ys 0 (j + 1) (omega arith), get_or_append_left xs ys 0 (j + 2) (omega arith), get_or_append_left xs ys 0 (j + 3) (omega arith), get_or_append_left xs ys 0 (j + 4) (omega arith), get_or_append_left xs ys 0 (j + 5) (omega arith), get_or_append_left xs ys 0 (j + 6) (omega arith), get_or_append_left xs ys 0 (j + 7) (omega arith)) refl

-- ---- Sums.
numbers_long : (s : Sums) → length (numbers s) ≡ 80
unfolding numbers
numbers_long s = refl

sums_before : (xs ys : List ℕ) (j : ℕ) → j + 80 ≤ length xs → sums_at (xs ++ ys) j ≡ sums_at xs j
unfolding sums_at
sums_before xs ys j h = same _ _ (number_before xs ys j (omega arith)) (number_before xs ys (j + 8) (omega arith)) (number_before xs ys (j + 16) (omega arith)) (number_before xs ys (j + 24) (omega arith)) (number_before xs ys (j + 32) (omega arith)) (number_before xs ys (j + 40) (omega arith)) (number_before xs ys (j + 48) (omega arith)) (number_before xs ys (j + 56) (omega arith)) (number_before xs ys (j + 64) (omega arith)) (number_before xs ys (j + 72) (omega arith))

-- What was written is read back.
pub sums_back : (xs : List ℕ) (s : Sums) → Within s → sums_at (xs ++ numbers s) (length xs) ≡ s
unfolding sums_at numbers
sums_back xs s h =
    same _ _
    (number_behind xs (numbers s) 0 _ (omega arith) ∙ back s.records h.records_in)
    (number_behind xs (numbers s) 8 _ (omega arith) ∙ back s.refused h.refused_in)
    (number_behind xs (numbers s) 16 _ (omega arith) ∙ back s.letters h.letters_in)
    (number_behind xs (numbers s) 24 _ (omega arith) ∙ back s.intervals h.intervals_in)
    (number_behind xs (numbers s) 32 _ (omega arith) ∙ back s.masked h.masked_in)
    (number_behind xs (numbers s) 40 _ (omega arith) ∙ back s.n h.n_in)
    (number_behind xs (numbers s) 48 _ (omega arith) ∙ back s.masked_n h.masked_n_in)
    (number_behind xs (numbers s) 56 _ (omega arith) ∙ back s.gc h.gc_in)
    (number_behind xs (numbers s) 64 _ (omega arith) ∙ back s.acgt h.acgt_in)
    (number_behind xs (numbers s) 72 _ (omega arith) ∙ back s.uneven h.uneven_in)

first_before : (xs ys : List ℕ) (k : ℕ) → 80 * k ≤ length xs → first_sums (xs ++ ys) k ≡ first_sums xs k
unfolding first_sums
first_before xs ys zero h = refl
first_before xs ys (suc k) h = ap₂ add (first_before xs ys k (omega arith)) (sums_before xs ys (80 * k) (omega arith))

eightieth : (n k : ℕ) → n ≡ 80 * k → n / 80 ≡ k
eightieth n k e = ap (λ (m : ℕ). m / 80) (let f : n ≡ k * 80 + 0 = omega arith in f) ∙ div-mul-add k 80 0 (omega arith)

-- Bytes that hold k sums, and one more behind them.
module _ (xs : List ℕ) (k : ℕ) (e : length xs ≡ 80 * k) (s : Sums) where
  pub longer : length (xs ++ numbers s) ≡ 80 * (k + 1)
  longer = omega (arith, length-append xs (numbers s), numbers_long s)

  pub numbers_add : Within s → sums_in (xs ++ numbers s) ≡ add (sums_in xs) s
  unfolding first_sums
  numbers_add h =
      ap (first_sums (xs ++ numbers s)) (eightieth (length (xs ++ numbers s)) (suc k) (omega (arith, longer)))
      ∙ ap₂ add
      (first_before xs (numbers s) k (omega arith) ∙ ap (first_sums xs) (sym (eightieth (length xs) k e)))
      (ap (sums_at (xs ++ numbers s)) (sym e) ∙ sums_back xs s h)

pub numbers_none : sums_in [] ≡ no_sums
unfolding first_sums
numbers_none = refl

-- ---- Sums, one after the other.
unfoldable pub all_numbers : List Sums → List ℕ
all_numbers [] = []
all_numbers (s ∷ ss) = numbers s ++ all_numbers ss

unfoldable pub summed : List Sums → Sums
summed [] = no_sums
summed (s ∷ ss) = add s (summed ss)

abbrev pub AllWithin : List Sums → Type 0
AllWithin [] = Unit
AllWithin (s ∷ ss) = Within s × AllWithin ss

first_within : (bs : List ℕ) (k : ℕ) → Within (first_sums bs k)
unfolding first_sums
first_within bs zero = none_within
first_within bs (suc k) = add_within (first_sums bs k) (sums_at bs (80 * k))

summed_within : (ss : List Sums) → Within (summed ss)
unfolding summed
summed_within [] = none_within
summed_within (s ∷ ss) = add_within s (summed ss)

numbers_from : (xs : List ℕ) (k : ℕ) → length xs ≡ 80 * k → (ss : List Sums) → AllWithin ss → sums_in (xs ++ all_numbers ss) ≡ add (sums_in xs) (summed ss)
unfolding all_numbers summed
numbers_from xs k e [] h = ap (λ (l : List ℕ). sums_in l) (append-nil xs) ∙ sym (add_none (sums_in xs) (first_within xs (length xs / 80)))
numbers_from xs k e (s ∷ ss) (h, hs) =
    ap (λ (l : List ℕ). sums_in l) (sym (append_assoc xs (numbers s) (all_numbers ss)))
    ∙ numbers_from (xs ++ numbers s) (k + 1) (longer xs k e s) ss hs
    ∙ ap (λ (t : Sums). add t (summed ss)) (numbers_add xs k e s h)
    ∙ add_assoc (sums_in xs) s (summed ss)

-- The numbers of several sums are those of their sum.
pub numbers_all : (ss : List Sums) → AllWithin ss → sums_in (all_numbers ss) ≡ summed ss
numbers_all ss h =
    numbers_from [] 0 refl ss h
    ∙ ap (λ (t : Sums). add t (summed ss)) numbers_none
    ∙ add_comm no_sums (summed ss)
    ∙ add_none (summed ss) (summed_within ss)
