-- All short sequences against the masking calls: which are refused, and that a sequence's mask is the filling call's.
-- The list's own theorems stand in Sequences.antt (5^m members, every sequence, nothing else, none twice), the sum in Tallying.antt (`tallies_sum`).
use Rattle.std.proofs.Common.{◌≡◌, refl, ap, ap₂, ◌∙◌, Bool, true, false, not, ◌||◌, cond, true≢false, ⊎_elim, List, [], ◌∷◌, Result, Ok, ℕ, zero, suc, ◌+◌, ◌^◌, ◌≤◌, ◌<◌, div-lt_iff_lt-mul, arith, ltb, eqb, length, take, take_at, Float}
use borrow.Author.Tests.{le-ltb}
use mathlib.Core.List.Memᴰ
use mathlib.Core.List.{Memᴰ}
use Rattle.checks.specs.declared.refusal.Refusal.{Refusal}
use Rattle.checks.specs.Refusal.{number_of}
use lib.Ieee.{of_bits, lt}
use Rattle.checks.specs.Tests.{any_byte, is_high, is_other, threshold_bad, most_intervals}
use Rattle.intervals.proofs.Slice.{wrote_list}
use Rattle.letters.specs.Code.{codes}
use Rattle.tables.specs.Density.{density}
use Rattle.tables.specs.Tables.{ln_table, f_table}
use Rattle.tables.proofs.Tables.{ln_table_length, f_table_length}
use Rattle.longdust.specs.declared.Answer.{Answer}
use Rattle.longdust.specs.declared.Lent.{Lent}
use Rattle.longdust.specs.Options.{defaults}
use Rattle.longdust.specs.Checks.{gc_bad, xdrop_bad, too_short_of, refusal}
use Rattle.longdust.specs.Mask.{mask}
use Rattle.longdust.specs.Buffers.{Buffers, lengths}
use Rattle.longdust.specs.Call.{listed, Filled, Answered}
use Rattle.short_sequences.specs.Sequences.{five_letters, sequences_of, OverFive}
use Rattle.short_sequences.specs.Tallies.{short_options, lent, refusal_of, mask_of, is_refused, passing, refused_of}
use Rattle.short_sequences.proofs.Sequences.{sequences_count, nothing_else}

-- The buffers of these sizes are as long as listed for up to 8 letters.
lent_enough : (n : ℕ) → n ≤ 8 → too_short_of n 1 8 lent ≡ false
unfolding too_short_of
lent_enough n h =
    let few : most_intervals n 1 < 5 = (div-lt_iff_lt-mul {k = 2} {x = n + 1} {y = 5} (omega arith)).1 (omega arith) in
    rw (le-ltb 8 n h, le-ltb 4 (most_intervals n 1) (omega arith))

-- The filling call on a short sequence: its refusal, and the intervals of its list.
module _ (s : List ℕ) {b b' : Buffers} where
  pub same_refusal : {r : Result Answer Refusal} → Answered Filled short_options s b b' r → lengths b ≡ lent → number_of r ≡ refusal_of s
  unfolding refusal_of
  same_refusal A e = A.number ∙ ap (λ (l : Lent). refusal short_options s l) e

  -- Also in longer buffers: of up to 8 letters, and buffers that are at least as long as listed.
  pub same_refusal_longer : {r : Result Answer Refusal} → Answered Filled short_options s b b' r → length s ≤ 8
      → too_short_of (length s) 1 8 (lengths b) ≡ false → number_of r ≡ refusal_of s
  unfolding refusal_of short_options
  same_refusal_longer A few enough =
      A.number ∙ rw (enough, lent_enough (length s) few)

  pub same_mask : {a : Answer} → Answered Filled short_options s b b' (Ok a) → listed a b' ≡ mask_of s
  unfolding mask_of short_options
  same_mask A =
      let t = A.tables in
      let D = density 1 short_options.gc (codes s) in
      wrote_list A.accepted.buffers.list
      ∙ ap₂
      (λ (ln f : List Float). mask short_options s ln f)
      (ap (λ (l : List Float). take 9 l) t.ln ∙ take_at (ln_table 8) _ 9 (ln_table_length 8))
      (ap (λ (l : List Float). take 10 l) t.f ∙ take_at (f_table 1 8 D) _ 10 (f_table_length 1 8 D))

-- No byte of a sequence over the five letters is refused.
or_false : (a b : Bool) → (a || b) ≡ false → (a ≡ false) × (b ≡ false)
or_false true b e = absurd (true≢false e)
or_false false b e = (refl, e)

passed : (test : ℕ → Bool) (xs : List ℕ) → any_byte test xs ≡ false → (x : ℕ) → Memᴰ x xs → test x ≡ false
unfolding any_byte
passed test [] e x h = absurd (Memᴰ.not-nil h)
passed test (y ∷ xs) e x h =
    let both = or_false (test y) (any_byte test xs) e in
    ⊎_elim (λ (q : x ≡ y). ap test q ∙ both.0) (λ (m : Memᴰ x xs). passed test xs both.1 x m) (Memᴰ.cases_cons h)

none_passes : (test : ℕ → Bool) → any_byte test five_letters ≡ false → (s : List ℕ) → OverFive s → any_byte test s ≡ false
unfolding any_byte
none_passes test e [] o = refl
none_passes test e (x ∷ s) o = rw (passed test five_letters e x o.0) (none_passes test e s o.1)

-- Refused are the sequences of fewer than two letters, with 3.
sizes : (n : ℕ) → n ≤ 8
    → ◌≡◌ {A = ℕ} (cond (ltb n 2) 3 (cond (ltb 2147483647 n) 10 (cond (too_short_of n 1 8 lent) 11 0))) (cond (ltb n 2) 3 0)
unfolding too_short_of
sizes zero h = refl
sizes (suc zero) h = refl
sizes (suc (suc zero)) h = refl
sizes (suc (suc (suc zero))) h = refl
sizes (suc (suc (suc (suc zero)))) h = refl
sizes (suc (suc (suc (suc (suc zero))))) h = refl
sizes (suc (suc (suc (suc (suc (suc zero)))))) h = refl
sizes (suc (suc (suc (suc (suc (suc (suc zero))))))) h = refl
sizes (suc (suc (suc (suc (suc (suc (suc (suc zero)))))))) h = refl
sizes (suc (suc (suc (suc (suc (suc (suc (suc (suc n))))))))) h = absurd (let b : ⊥ = omega arith in b)

pub refusal_is : (s : List ℕ) → OverFive s → length s ≤ 8 → refusal_of s ≡ cond (ltb (length s) 2) 3 0
unfolding refusal_of short_options defaults threshold_bad gc_bad xdrop_bad any_byte lt of_bits
refusal_is s o h = rw (none_passes is_high refl s o, none_passes is_other refl s o) (sizes (length s) h)

count_all : (test : List ℕ → Bool) (b : Bool) (ss : List (List ℕ)) → ((s : List ℕ) → Memᴰ s ss → test s ≡ b)
    → passing test ss ≡ cond b (length ss) 0
unfolding passing
count_all test b [] h = go b
  where
    go : (b : Bool) → ◌≡◌ {A = ℕ} 0 (cond b 0 0)
    go true = refl
    go false = refl
count_all test b (s ∷ ss) h =
    rw (h s (Memᴰ.head refl), count_all test b ss (λ r m. h r (Memᴰ.tail m))) (go b)
  where
    go : (b : Bool) → ◌≡◌ {A = ℕ} (cond b 1 0 + cond b (length ss) 0) (cond b (suc (length ss)) 0)
    go true = omega arith
    go false = refl

-- All of one letter, none of more.
pub refused_count : (m : ℕ) → m ≤ 8 → refused_of m ≡ cond (ltb m 2) (5 ^ m) 0
unfolding refused_of is_refused
refused_count m h =
    count_all is_refused (ltb m 2) (sequences_of m)
    (λ s k.
    let p = nothing_else m s k in
    ap (λ (n : ℕ). not (eqb n 0)) (refusal_is s p.1 (omega (arith, p.0)) ∙ ap (λ (n : ℕ). cond (ltb n 2) 3 0) p.0) ∙ go (ltb m 2))
    ∙ ap (λ (n : ℕ). cond (ltb m 2) n 0) (sequences_count m)
  where
    go : (b : Bool) → not (eqb (cond b 3 0) 0) ≡ b
    go true = refl
    go false = refl
