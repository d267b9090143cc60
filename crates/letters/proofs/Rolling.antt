-- The rolling k-mer against the places: what the state after m letters holds, and that its queue entry decodes to the place.
use Rattle.std.proofs.Common.{◌≡◌, ℕ, zero, suc, ◌+◌, ◌-◌, ◌*◌, ◌/◌, ◌%◌, ◌^◌, ◌<◌, ◌≤◌, Bool, true, false, cond, ◌&&◌, ltb, leb, List, length, get_or, sym, refl, ap, ◌∙◌, subst, add-zero, mod-lt, mod-eq_of_lt, add-one, arith, ltb-true, le-ltb, lt-ltb, le-leb, leb-false, leb-true}
use native.Mathlib.Nat.{mod-one}
use lib.Bits.{bit_and, bit_or, or_shifted, and_mask}
use mir.Val.{bool_byte}
use borrow.Author.Tests.{lt-leb}
use Rattle.std.proofs.lemmas.List.{get_or_default}
use Rattle.letters.specs.declared.Kmer.{Kmer}
use Rattle.letters.specs.Place.{ambiguous, plain, packed, all_plain, place_at}
use Rattle.letters.specs.Terms.Entry.{decode}
use Rattle.letters.specs.Terms.Rolling.{no_letter, rolled_on, kmer_after, entry_of}
use Rattle.letters.proofs.Powers.{four_pos, four_small, four_two, mod_mod_four, mod_letter}
use Rattle.letters.proofs.Entries.{decode_plain, decode_ambiguous}

-- ---- The code's shift, or and mask.
pub shifted_in : (k v b : ℕ) → k ≤ 12 → b < 4 → bit_and (bit_or ((v * 4) % 4294967296) b) (4 ^ k - 1) ≡ (v * 4 + b) % 4 ^ k
shifted_in k v b hk hb =
    let w = v % 1073741824 in
    let shifted : (v * 4) % 4294967296 ≡ w * 4 = simp add-zero at (mod_letter v 0 15 (omega arith)) in
    let all : (v * 4 + b) % 4294967296 ≡ w * 4 + b = mod_letter v b 15 hb in
    ap (λ (x : ℕ). bit_and (bit_or x b) (4 ^ k - 1)) shifted
    ∙ ap (λ (x : ℕ). bit_and x (4 ^ k - 1)) (or_shifted w 2 b hb ∙ sym all)
    ∙ ap (λ (x : ℕ). bit_and ((v * 4 + b) % 4294967296) (x - 1)) (four_two k)
    ∙ and_mask ((v * 4 + b) % 4294967296) (2 * k)
    ∙ ap (λ (x : ℕ). (v * 4 + b) % 4294967296 % x) (sym (four_two k))
    ∙ mod_mod_four (v * 4 + b) k 16 (omega arith)

pub rolled_plain : (k : ℕ) (q : Kmer) (b v : ℕ) → b < 4 → v ≡ (q.value * 4 + b) % 4 ^ k → record { value = v; run = q.run + 1 } ≡ rolled_on k q b
unfolding rolled_on
rolled_plain k q b v h e = rw (e, lt-ltb b 4 h)

pub rolled_other : (k : ℕ) (q : Kmer) (b : ℕ) → 4 ≤ b → record { value = q.value; run = 0 } ≡ rolled_on k q b
unfolding rolled_on
rolled_other k q b h = rw (le-ltb b 4 h)

pub entry_bits : (k : ℕ) (q : Kmer) → q.value < 16777216 → bit_or ((q.value * 2) % 4294967296) (bool_byte (ltb q.run k)) ≡ entry_of k q
unfolding entry_of
entry_bits k q h =
    let shifted : (q.value * 2) % 4294967296 ≡ q.value * 2 = omega arith in
    ap (λ (x : ℕ). bit_or x (bool_byte (ltb q.run k))) shifted ∙ go (ltb q.run k)
  where
    go : (t : Bool) → bit_or (q.value * 2) (bool_byte t) ≡ q.value * 2 + cond t 1 0
    go true = or_shifted q.value 1 1 (omega arith)
    go false = or_shifted q.value 1 0 (omega arith)

-- ---- The state after m letters.
after_packed : (k : ℕ) (s : List ℕ) (m j : ℕ) → j ≤ (kmer_after k s m).run → j ≤ k → (kmer_after k s m).value % 4 ^ j ≡ packed s m j
unfolding packed kmer_after rolled_on
after_packed k s m zero h l = mod-one (kmer_after k s m).value
after_packed k s zero (suc j) h l = absurd (let b : ⊥ = omega arith in b)
after_packed k s (suc m) (suc j) h l = go (ltb (get_or s m 4) 4) refl (λ q. after_packed k s m j q (omega arith)) h
  where
    q : Kmer
    q = kmer_after k s m

    c : ℕ
    c = get_or s m 4

    go : (t : Bool) → ltb c 4 ≡ t → (j ≤ q.run → q.value % 4 ^ j ≡ packed s m j) → suc j ≤ cond t (q.run + 1) 0
        → cond t ((q.value * 4 + c) % 4 ^ k) q.value % 4 ^ suc j ≡ packed s m j * 4 + c
    go true e ih r =
        mod_mod_four (q.value * 4 + c) (suc j) k l
        ∙ mod_letter q.value c j (ltb-true c 4 e)
        ∙ ap (λ (x : ℕ). x * 4 + c) (ih (omega arith))
    go false e ih r = absurd (let b : ⊥ = omega arith in b)

after_run : (k : ℕ) (s : List ℕ) (m j : ℕ) → all_plain s m j ≡ leb j (kmer_after k s m).run
unfolding all_plain kmer_after rolled_on
after_run k s m zero = sym (le-leb 0 (kmer_after k s m).run (omega arith))
after_run k s zero (suc j) = sym (lt-leb (suc j) 0 (omega arith))
after_run k s (suc m) (suc j) = go (ltb (get_or s m 4) 4) (after_run k s m j)
  where
    n : ℕ
    n = (kmer_after k s m).run

    up : (b : Bool) → leb j n ≡ b → leb j n ≡ leb (suc j) (n + 1)
    up true e = e ∙ sym (le-leb (suc j) (n + 1) (let q = leb-true j n e in omega arith))
    up false e = e ∙ sym (lt-leb (suc j) (n + 1) (let q = leb-false j n e in omega arith))

    go : (t : Bool) → all_plain s m j ≡ leb j n → (t && all_plain s m j) ≡ leb (suc j) (cond t (n + 1) 0)
    go true h = h ∙ up (leb j n) refl
    go false h = sym (lt-leb (suc j) 0 (omega arith))

after_value : (k : ℕ) (s : List ℕ) (m : ℕ) → (kmer_after k s m).value < 4 ^ k
unfolding kmer_after rolled_on
after_value k s zero = four_pos k
after_value k s (suc m) = go (ltb (get_or s m 4) 4) (after_value k s m)
  where
    go : (t : Bool) → (kmer_after k s m).value < 4 ^ k → cond t (((kmer_after k s m).value * 4 + get_or s m 4) % 4 ^ k) (kmer_after k s m).value < 4 ^ k
    go true h = mod-lt ((kmer_after k s m).value * 4 + get_or s m 4) (four_pos k)
    go false h = h

after_few : (k : ℕ) (s : List ℕ) (m : ℕ) → (kmer_after k s m).run ≤ m
unfolding kmer_after rolled_on
after_few k s zero = omega arith
after_few k s (suc m) = go (ltb (get_or s m 4) 4) (after_few k s m)
  where
    go : (t : Bool) → (kmer_after k s m).run ≤ m → cond t ((kmer_after k s m).run + 1) 0 ≤ suc m
    go true h = omega arith
    go false h = omega arith

-- ---- For a loop over the letters of s whose state after m of them is q.
pub kmer_none : (k : ℕ) (s : List ℕ) → no_letter ≡ kmer_after k s 0
unfolding kmer_after
kmer_none k s = refl

module _ (k : ℕ) (s : List ℕ) (m : ℕ) (q : Kmer) (after : q ≡ kmer_after k s m) where
  pub kmer_next : (r : Kmer) → m < length s → r ≡ rolled_on k q (get_or s m 0) → r ≡ kmer_after k s (m + 1)
  unfolding kmer_after
  kmer_next r h e = e ∙ rw (after, get_or_default s m 0 4 h, add-one m)

  pub run_few : q.run ≤ m
  run_few = rw after (after_few k s m)

  pub value_below : q.value < 4 ^ k
  value_below = rw after (after_value k s m)

  pub value_small : k ≤ 12 → q.value < 16777216
  value_small h = let l = value_below in omega (arith, four_small k h)

  pub entry_below : entry_of k q / 2 < 4 ^ k
  unfolding entry_of
  entry_below = go (ltb q.run k) value_below
    where
      go : (t : Bool) → q.value < 4 ^ k → (q.value * 2 + cond t 1 0) / 2 < 4 ^ k
      go true h = omega arith
      go false h = omega arith

-- ---- The entry after letter p is place p.
entry_plain : (k : ℕ) (q : Kmer) → k ≤ q.run → entry_of k q ≡ q.value * 2
unfolding entry_of
entry_plain k q h = rw (le-ltb q.run k h) (omega arith)

entry_ambiguous : (k : ℕ) (q : Kmer) → q.run < k → entry_of k q ≡ q.value * 2 + 1
unfolding entry_of
entry_ambiguous k q h = rw (lt-ltb q.run k h)

pub entry_place : (k : ℕ) (s : List ℕ) (p : ℕ) (q : Kmer) → q ≡ kmer_after k s (p + 1) → decode (entry_of k q) ≡ place_at k s p
unfolding place_at
entry_place k s p q e = by (all_plain s (suc p) k) (after_run k s (suc p) k ∙ ap (λ (r : Kmer). leb k r.run) (sym after))
  where
    after : q ≡ kmer_after k s (suc p)
    after = e ∙ ap (kmer_after k s) (add-one p)

    kmer : k ≤ q.run → q.value ≡ packed s (suc p) k
    kmer h =
        sym (mod-eq_of_lt (value_below k s (suc p) q after))
        ∙ ap (λ (r : Kmer). r.value % 4 ^ k) after
        ∙ after_packed k s (suc p) k (subst (λ (r : Kmer). k ≤ r.run) after h) (omega arith)

    by : (t : Bool) → t ≡ leb k q.run → decode (entry_of k q) ≡ cond t (plain (packed s (suc p) k)) ambiguous
    by true t =
        let h = leb-true k q.run (sym t) in
        let v = entry_plain k q h in
        decode_plain (entry_of k q) (omega arith) ∙ ap plain ((let d : entry_of k q / 2 ≡ q.value = omega arith in d) ∙ kmer h)
    by false t =
        let v = entry_ambiguous k q (leb-false k q.run (sym t)) in
        decode_ambiguous (entry_of k q) (λ (z : entry_of k q % 2 ≡ 0). omega arith)

-- What the methods of `Kmer` cite.
pub ruleset of_kmers = (four_pos, four_small, shifted_in, rolled_plain, rolled_other, entry_bits)
