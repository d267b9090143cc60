-- The list that was found, in lent lists, and its lines.
use Rattle.std.proofs.Common.{◌≡◌, ℕ, ◌<◌, min, Bool, true, false, true≢false, cond, ◌||◌, eqb, List, [], ◌++◌, length, take, drop, refl, sym, ap, ap₂, ◌∙◌, arith, ℤ, Result, Ok, Err, eqb-true, le-ltb, append-nil}
use borrow.Author.Tests.{ne_eqb}
use lib.ListN.{length-map}
use lib.Seq.{take_at}
use Rattle.buffers.specs.Fill.{put}
use Rattle.intervals.specs.declared.Interval.{Interval}
use Rattle.strongest_list.specs.Stretches.{Asked, Stretch, letters, score, strongest}
use Rattle.strongest_list.specs.Call.{letters_of, scores_of, entries}
use Rattle.ranking.specs.Text.{each}
use Rattle.checks.specs.declared.refusal.Refusal.{Refusal}
use Rattle.checks.specs.Refusal.{number}
use Rattle.checks.specs.Tests.{kmer_outside, window_above}
use Rattle.checks.proofs.Refusing.{number_positive}
use Rattle.strongest_list.proofs.Asking.{admitted}
use Rattle.ranking.specs.Ranking.{line, ranking, refusal_of, listing, Answers}

module _ {A : Type 0} (xs d l : List A) (n : ℕ) (e : l ≡ put xs d) (c : n ≡ length xs) where
  pub front : take n l ≡ xs
  front = ap (λ (m : List A). take n m) e ∙ take_at xs (drop (length xs) d) n (sym c)

ranking_is : (name : List ℕ) (A : Asked) (N M n : ℕ) → M ≡ N → n ≡ length (strongest A M)
    → each (line name A (letters_of A (strongest A M)) (scores_of A (strongest A M))) n ≡ ranking name A N
unfolding ranking
ranking_is name A N M n p q = ap (λ (m : ℕ). each (line name A (letters_of A (strongest A M)) (scores_of A (strongest A M))) m) q ∙ ap (λ (m : ℕ). ranking name A m) p

module _ (name : List ℕ) (A : Asked) (N : ℕ) (d l l' : List Interval) (e z z' : List ℤ) (n : ℕ) (before after : List ℕ) where
  abbrev found : List Stretch
  found = entries A d e

  -- The lines of the front of the lists that were found.
  pub lines_of_found : length d ≡ N → length e ≡ N → n ≡ length found → l ≡ put (letters_of A found) d → z ≡ put (scores_of A found) e
      → l' ≡ l → z' ≡ z → after ≡ before ++ each (line name A (take n l') (take n z')) (length (take n l')) → after ≡ before ++ ranking name A N
  lines_of_found a b c p q r s t =
      let ls : take n l' ≡ letters_of A found = ap (λ (m : List Interval). take n m) r ∙ front (letters_of A found) d l n p (c ∙ sym (length-map found (letters A.kmer))) in
      let ss : take n z' ≡ scores_of A found = ap (λ (m : List ℤ). take n m) s ∙ front (scores_of A found) e z n q (c ∙ sym (length-map found (score A))) in
      t
      ∙ ap₂ (λ (js : List Interval) (ys : List ℤ). before ++ each (line name A js ys) (length js)) ls ss
      ∙ ap (λ (m : List ℕ). before ++ m)
      (ranking_is name A N (min (length d) (length e)) (length (letters_of A found)) (omega arith) (length-map found (letters A.kmer)))

-- ---- The lines of a record, none where it is refused.
module _ (name : List ℕ) (A : Asked) (N : ℕ) where
  pub listed_is : (before after : List ℕ) (r : Result Unit Refusal) → Answers name A N before after r → after ≡ before ++ listing name A N
  listed_is before after (Ok u) R = R.appended ∙ sym (ap (λ (n : ℕ). before ++ cond (eqb n 0) (ranking name A N) []) R.accepted)
  listed_is before after (Err q) R =
      let not_0 : eqb (refusal_of A) 0 ≡ false = ap (λ (n : ℕ). eqb n 0) R.refused ∙ ne_eqb (number q) 0 (λ z. let p : 0 < number q = number_positive q in omega arith) in
      R.unchanged ∙ sym (ap (λ (b : Bool). before ++ cond b (ranking name A N) []) not_0 ∙ append-nil before)

  -- It is refused where k or w is too large.
  pub none_listed : (kmer_outside A.kmer || window_above A.window_size) ≡ true → [] ≡ listing name A N
  none_listed h = by (eqb (refusal_of A) 0) refl
    where
      by : (b : Bool) → eqb (refusal_of A) 0 ≡ b → [] ≡ cond b (ranking name A N) []
      by false e = refl
      by true e =
          let a = admitted A _ _ _ _ (eqb-true (refusal_of A) 0 e) in
          absurd
          (true≢false
          (sym h
          ∙ ap₂ (λ (x y : Bool). (x || y) || window_above A.window_size) (le-ltb A.kmer 1 a.kmer_low) (le-ltb 12 A.kmer a.kmer_high)
          ∙ le-ltb 65535 A.window_size a.window_high))
