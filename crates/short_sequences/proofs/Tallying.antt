-- Sequences tallied one after the other.
use Rattle.std.proofs.Common.{◌≡◌, refl, sym, ap, ap₂, subst, ◌∙◌, Bool, true, false, not, ◌&&◌, cond, List, [], ◌∷◌, ◌++◌, ℕ, zero, suc, ◌+◌, ◌^◌, ◌≤◌, ◌<◌, add-one, arith, eqb, length, take, get_or, set, replicate, length-set, ext_get_or, take-suc, take_all, length-take-le, get_or-set_same, get_or-set_other, Option, None, Some, IfSome}
use borrow.Author.Tests.{eqb-true, eqb-false}
use lib.ListN.{length-replicate}
use Rattle.std.proofs.lemmas.List.{get_or-replicate}
use Rattle.buffers.specs.Fill.{tabulate, tabulate_from}
use Rattle.buffers.proofs.Tabulate.{tabulate_length, tabulate_at}
use Rattle.intervals.proofs.Counted.{covered_at_most}
use Rattle.short_sequences.specs.Sequences.{sequences_of}
use Rattle.short_sequences.specs.Tallies.{is_refused, mask_of, masked_letters, leads_to, passing, tallies_over, tallies_of, refused_of, total}
use Rattle.short_sequences.specs.Terms.Outcome.{outcome_of, counted, one_if_refused}
use Rattle.short_sequences.proofs.Sequences.{sequences_count, sequence_size}

-- One sequence more.
count_more : (test : List ℕ → Bool) (ss : List (List ℕ)) (s : List ℕ) → passing test (ss ++ (s ∷ [])) ≡ passing test ss + cond (test s) 1 0
unfolding passing
count_more test [] s = omega arith
count_more test (r ∷ ss) s = omega (arith, count_more test ss s)

count_most : (test : List ℕ → Bool) (ss : List (List ℕ)) → passing test ss ≤ length ss
unfolding passing
count_most test [] = omega arith
count_most test (s ∷ ss) = go (test s) (count_most test ss)
  where
    go : (b : Bool) → passing test ss ≤ length ss → cond b 1 0 + passing test ss ≤ suc (length ss)
    go true h = omega arith
    go false h = omega arith

-- No more letters are masked than there are.
masked_most : (s : List ℕ) → masked_letters s ≤ length s
unfolding masked_letters
masked_most s = omega (arith, covered_at_most (mask_of s) 0 (length s))

-- What holds of a value, if there is one, holds in a weaker form.
pub some_weaker : (o : Option ℕ) (P Q : ℕ → Type 0) → ((c : ℕ) → P c → Q c) → IfSome o P → IfSome o Q
some_weaker None P Q f h = tt
some_weaker (Some c) P Q f h = f c h

pub letters_most : (s : List ℕ) → IfSome (outcome_of s) (λ c. c ≤ length s)
letters_most s = go (is_refused s)
  where
    go : (b : Bool) → IfSome (cond b None (Some (masked_letters s))) (λ c. c ≤ length s)
    go true = tt
    go false = masked_most s

module _ (m : ℕ) where
  pub tallies_length : (ss : List (List ℕ)) → length (tallies_over m ss) ≡ m + 1
  tallies_length ss = tabulate_length (λ c. passing (leads_to c) ss) (m + 1)

  pub tally_at : (ss : List (List ℕ)) (c : ℕ) → c < m + 1 → get_or (tallies_over m ss) c 0 ≡ passing (leads_to c) ss
  tally_at ss c h = tabulate_at (λ c. passing (leads_to c) ss) (m + 1) c 0 h

  pub tally_most : (ss : List (List ℕ)) (c : ℕ) → c < m + 1 → get_or (tallies_over m ss) c 0 ≤ length ss
  tally_most ss c h = omega (arith, tally_at ss c h, count_most (leads_to c) ss)

  module _ (ss : List (List ℕ)) (s : List ℕ) (short : length s ≤ m) where
    -- Each entry changes by 1 or not at all.
    entry_more : (c : ℕ) → c < m + 1 → get_or (tallies_over m (ss ++ (s ∷ []))) c 0 ≡ get_or (tallies_over m ss) c 0 + cond (leads_to c s) 1 0
    entry_more c h = tally_at (ss ++ (s ∷ [])) c h ∙ count_more (leads_to c) ss s ∙ ap (λ (n : ℕ). n + cond (leads_to c s) 1 0) (sym (tally_at ss c h))

    all_entries : (xs : List ℕ) → length xs ≡ m + 1 → ((c : ℕ) → c < m + 1 → get_or xs c 0 ≡ get_or (tallies_over m ss) c 0 + cond (leads_to c s) 1 0)
        → xs ≡ tallies_over m (ss ++ (s ∷ []))
    all_entries xs e p =
        ext_get_or 0 xs (tallies_over m (ss ++ (s ∷ []))) (e ∙ sym (tallies_length (ss ++ (s ∷ []))))
        (λ c h. p c (omega arith) ∙ sym (entry_more c (omega arith)))

    leads : (b : Bool) (c : ℕ) → is_refused s ≡ b → leads_to c s ≡ (not b && eqb (masked_letters s) c)
    unfolding leads_to
    leads b c e = ap (λ (r : Bool). not r && eqb (masked_letters s) c) e

    -- Refused, it changes no entry; else the entry of its letters.
    no_entry : is_refused s ≡ true → tallies_over m ss ≡ tallies_over m (ss ++ (s ∷ []))
    no_entry e =
        all_entries (tallies_over m ss) (tallies_length ss)
        (λ c h. let l : leads_to c s ≡ false = leads true c e in rw l (omega arith))

    one_entry : is_refused s ≡ false
        → let T : List ℕ = tallies_over m ss in set T (masked_letters s) (get_or T (masked_letters s) 0 + 1) ≡ tallies_over m (ss ++ (s ∷ []))
    one_entry e =
        let T : List ℕ = tallies_over m ss in
        let L : ℕ = masked_letters s in
        let v : ℕ = get_or T L 0 + 1 in
        let inside : L < length T = omega (arith, masked_most s, tallies_length ss) in
        all_entries (set T L v) (length-set T L v ∙ tallies_length ss)
        (λ c h. go c (eqb L c) refl inside)
      where
        go : (c : ℕ) (b : Bool) → eqb (masked_letters s) c ≡ b → masked_letters s < length (tallies_over m ss)
            → get_or (set (tallies_over m ss) (masked_letters s) (get_or (tallies_over m ss) (masked_letters s) 0 + 1)) c 0 ≡ get_or (tallies_over m ss) c 0 + cond (leads_to c s) 1 0
        go c true q inside =
            let T : List ℕ = tallies_over m ss in
            let L : ℕ = masked_letters s in
            let l : leads_to c s ≡ true = leads false c e ∙ q in
            let same : L ≡ c = eqb-true L c q in
            rw (l, ← same) (get_or-set_same T L (get_or T L 0 + 1) 0 inside)
        go c false q inside =
            let T : List ℕ = tallies_over m ss in
            let L : ℕ = masked_letters s in
            let l : leads_to c s ≡ false = leads false c e ∙ q in
            rw l (get_or-set_other T L c (get_or T L 0 + 1) 0 (λ (k : c ≡ L). eqb-false L c q (sym k)) ∙ omega arith)

    -- The tallies with the outcome counted.
    pub tallies_more : counted (outcome_of s) (tallies_over m ss) ≡ tallies_over m (ss ++ (s ∷ []))
    tallies_more = go (is_refused s) refl
      where
        go : (b : Bool) → is_refused s ≡ b
            → counted (cond b None (Some (masked_letters s))) (tallies_over m ss) ≡ tallies_over m (ss ++ (s ∷ []))
        go true e = no_entry e
        go false e = one_entry e

    pub refused_more : passing is_refused ss + one_if_refused (outcome_of s) ≡ passing is_refused (ss ++ (s ∷ []))
    refused_more = ap (λ (n : ℕ). passing is_refused ss + n) (go (is_refused s)) ∙ sym (count_more is_refused ss s)
      where
        go : (b : Bool) → one_if_refused (cond b None (Some (masked_letters s))) ≡ cond b 1 0
        go true = refl
        go false = refl

-- Cleared tallies are those of no sequence.
pub no_tallies : (m : ℕ) (d d' : List ℕ) → length d ≡ m + 1 → d' ≡ replicate (length d) 0 → d' ≡ tallies_over m []
unfolding passing
no_tallies m d d' h e =
    let long : length d' ≡ m + 1 = ap length e ∙ length-replicate (length d) 0 ∙ h in
    ext_get_or 0 d' (tallies_over m []) (long ∙ sym (tallies_length m []))
    (λ c l.
    ap (λ (xs : List ℕ). get_or xs c 0) e
    ∙ get_or-replicate (length d) c 0 0 (omega arith)
    ∙ sym (tally_at m [] c (omega arith)))

-- A loop over all sequences of m letters, which counts the sequence of index i in its turn.
pub record Tallying (m i refused : ℕ) (tallies : List ℕ) : Type 0 where
  pub within : i ≤ 5 ^ m
  pub tallies_are : tallies ≡ tallies_over m (take i (sequences_of m))
  pub refused_are : refused ≡ passing is_refused (take i (sequences_of m))

module _ (m : ℕ) where
  pub tallying_start : (d : List ℕ) → d ≡ tallies_over m [] → Tallying m 0 0 d
  unfolding passing
  tallying_start d e = record { within = omega arith; tallies_are = e; refused_are = refl }

  module _ {i refused : ℕ} {d : List ℕ} (a : Tallying m i refused d) (h : i < 5 ^ m) where
    abbrev sequence : List ℕ
    sequence = get_or (sequences_of m) i []

    done : length (take i (sequences_of m)) ≡ i
    done = length-take-le i (sequences_of m) (omega (arith, sequences_count m))

    one_more : take (i + 1) (sequences_of m) ≡ take i (sequences_of m) ++ (sequence ∷ [])
    one_more = ap (λ (n : ℕ). take n (sequences_of m)) (add-one i) ∙ take-suc (sequences_of m) i [] (omega (arith, sequences_count m))

    long : length d ≡ m + 1
    long = ap length a.tallies_are ∙ tallies_length m (take i (sequences_of m))

    module _ {o : Option ℕ} (e : o ≡ outcome_of sequence) where
      pub letters_inside : IfSome o (λ c. (c < length d) × (get_or d c 0 ≤ i))
      letters_inside = go o (subst (λ (z : Option ℕ). IfSome z (λ c. c ≤ length sequence)) (sym e) (letters_most sequence))
        where
          go : (z : Option ℕ) → IfSome z (λ c. c ≤ length sequence) → IfSome z (λ c. (c < length d) × (get_or d c 0 ≤ i))
          go None q = tt
          go (Some c) q =
              let k : c < length d = omega (arith, long, sequence_size m i h) in
              (k, rw a.tallies_are (omega (arith, done, tally_most m (take i (sequences_of m)) c (omega (arith, long)))))

      pub letters_fit : IfSome o (λ c. c < length d)
      letters_fit = some_weaker o (λ c. (c < length d) × (get_or d c 0 ≤ i)) (λ c. c < length d) (λ c k. k.0) letters_inside

      pub tally_fits : i < 390625 → IfSome o (λ c. get_or d c 0 < 4294967295)
      tally_fits few =
          some_weaker o (λ c. (c < length d) × (get_or d c 0 ≤ i)) (λ c. get_or d c 0 < 4294967295) (λ c k. omega (arith, k.1)) letters_inside

      pub refused_small : refused + one_if_refused o ≤ i + 1
      refused_small = omega (arith, done, count_most is_refused (take i (sequences_of m)), a.refused_are, one o)
        where
          one : (z : Option ℕ) → one_if_refused z ≤ 1
          one None = omega arith
          one (Some c) = omega arith

      pub tallying_turn : {d' : List ℕ} {n : ℕ} → d' ≡ counted o d → n ≡ one_if_refused o → Tallying m (i + 1) (refused + n) d'
      tallying_turn {d'} {n} p q =
          let ss : List (List ℕ) = take i (sequences_of m) in
          let short : length sequence ≤ m = omega (arith, sequence_size m i h) in
          record {
            within = omega arith;
            tallies_are =
                p
                ∙ ap₂ (λ (z : Option ℕ) (t : List ℕ). counted z t) e a.tallies_are
                ∙ tallies_more m ss sequence short
                ∙ ap (λ (l : List (List ℕ)). tallies_over m l) (sym one_more);
            refused_are =
                ap₂ (λ (x y : ℕ). x + y) a.refused_are (q ∙ ap one_if_refused e)
                ∙ refused_more m ss sequence short
                ∙ ap (λ (l : List (List ℕ)). passing is_refused l) (sym one_more);
          }

  all_taken : (i : ℕ) → 5 ^ m ≤ i → take i (sequences_of m) ≡ sequences_of m
  all_taken i h = take_all i (sequences_of m) (omega (arith, sequences_count m))

  pub tallying_end : {i refused : ℕ} {d : List ℕ} → Tallying m i refused d → 5 ^ m ≤ i → (refused ≡ refused_of m) × (d ≡ tallies_of m)
  unfolding refused_of tallies_of
  tallying_end {i} a h =
      (a.refused_are ∙ ap (λ (l : List (List ℕ)). passing is_refused l) (all_taken i h), a.tallies_are ∙ ap (λ (l : List (List ℕ)). tallies_over m l) (all_taken i h))

-- ---- The tallies and the refused sum to 5^m.
total_none : (n i : ℕ) → total (tabulate_from (λ c. passing (leads_to c) []) n i) ≡ 0
unfolding total tabulate_from passing
total_none zero i = refl
total_none (suc n) i = omega (arith, total_none n (suc i))

total_set : (xs : List ℕ) (c : ℕ) → c < length xs → total (set xs c (get_or xs c 0 + 1)) ≡ total xs + 1
unfolding total
total_set [] c h = absurd (let b : ⊥ = omega arith in b)
total_set (x ∷ xs) zero h = omega arith
total_set (x ∷ xs) (suc c) h = omega (arith, total_set xs c (omega arith))

total_counted : (o : Option ℕ) (xs : List ℕ) → IfSome o (λ c. c < length xs) → total (counted o xs) + one_if_refused o ≡ total xs + 1
total_counted None xs h = refl
total_counted (Some c) xs h = omega (arith, total_set xs c h)

module _ (m : ℕ) where
  -- After i sequences of the list they sum to i.
  sum_to : (i : ℕ) → i ≤ 5 ^ m → (d : List ℕ) (refused : ℕ) → Tallying m i refused d → total d + refused ≡ i
  unfolding passing tabulate
  sum_to zero h d refused a = omega (arith, ap total a.tallies_are, total_none (m + 1) 0, a.refused_are)
  sum_to (suc i) h d refused a =
      let ss : List (List ℕ) = take i (sequences_of m) in
      let d' : List ℕ = tallies_over m ss in
      let before : Tallying m i (passing is_refused ss) d' = record { within = omega arith; tallies_are = refl; refused_are = refl } in
      let l : i < 5 ^ m = omega arith in
      let o : Option ℕ = outcome_of (get_or (sequences_of m) i []) in
      let after = tallying_turn m before l refl refl refl in
      let ih = sum_to i (omega arith) d' (passing is_refused ss) before in
      let step = total_counted o d' (some_weaker o (λ c. (c < length d') × (get_or d' c 0 ≤ i)) (λ c. c < length d') (λ c k. k.0) (letters_inside m before l refl)) in
      let s : i + 1 ≡ suc i = add-one i in
      omega (
        arith,
        ap total (a.tallies_are ∙ sym (subst (λ (n : ℕ). counted o d' ≡ tallies_over m (take n (sequences_of m))) s after.tallies_are)),
        a.refused_are ∙ sym (subst (λ (n : ℕ). passing is_refused ss + one_if_refused o ≡ passing is_refused (take n (sequences_of m))) s after.refused_are),
      )

  pub tallies_sum : total (tallies_of m) + refused_of m ≡ 5 ^ m
  unfolding tallies_of refused_of
  tallies_sum =
      sum_to (5 ^ m) (omega arith) (tallies_over m (sequences_of m)) (passing is_refused (sequences_of m))
      (record {
        within = omega arith;
        tallies_are = ap (λ (l : List (List ℕ)). tallies_over m l) (sym (all_taken m (5 ^ m) (omega arith)));
        refused_are = ap (λ (l : List (List ℕ)). passing is_refused l) (sym (all_taken m (5 ^ m) (omega arith)));
      })
