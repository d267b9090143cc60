-- Letters of bytes: joined to a buffer a byte at a time, as `keep_letters` does, and block by block, as a program reads them.
use Rattle.std.proofs.Common.{ℕ, zero, suc, ◌+◌, ◌-◌, ◌≤◌, ◌<◌, ◌≡◌, refl, sym, ap, ap₂, ◌∙◌, Bool, true, false, cond, ◌≢◌, List, [], ◌∷◌, ◌++◌, append_assoc, append-nil, add-one, arith, eqb, length, take, drop, get_or, set, length-set, drop_of_length-le, drop-cons, drop-drop, drop-set-lt, length-take-le, take-suc-set}
use lib.Seq.{take-nil}
use borrow.Author.Tests.{eq-eqb, ne_eqb}
use Rattle.report.specs.Letters.{letters_of}
use Rattle.report.specs.Written.{Written}
use Rattle.report.specs.Held.{fitting, Held}
use Rattle.report.proofs.Writing.{take_written, written_by}

fitting_none : (d : List ℕ) (from : ℕ) → fitting [] d from ≡ []
unfolding fitting letters_of
fitting_none d from = take-nil (length d - from)

fitting_full : (bs d : List ℕ) (from : ℕ) → length d ≤ from → fitting bs d from ≡ []
unfolding fitting
fitting_full bs d from h = let e : length d - from ≡ 0 = omega arith in rw e

fitting_10 : (b : ℕ) (bs d : List ℕ) (from : ℕ) → b ≡ 10 → fitting (b ∷ bs) d from ≡ fitting bs d from
unfolding fitting letters_of
fitting_10 b bs d from e = rw (eq-eqb b 10 e)

fitting_letter : (b : ℕ) (bs d : List ℕ) (from : ℕ) → b ≢ 10 → from < length d → fitting (b ∷ bs) d from ≡ b ∷ fitting bs d (from + 1)
unfolding fitting letters_of
fitting_letter b bs d from e h =
    let l : length d - from ≡ suc (length d - (from + 1)) = omega arith in
    rw (ne_eqb b 10 e, l)

-- The buffer d, that held count letters, holds `at` letters in d', and the letters of what is left of the bytes, from i on, follow.
pub record Keeping (bs d : List ℕ) (count : ℕ) (d' : List ℕ) (at i : ℕ) : Type 0 where
  pub room : at ≤ length d'
  pub long : length d' ≡ length d
  pub past : drop at d' ≡ drop at d
  pub rest : take at d' ++ fitting (drop i bs) d at ≡ take count d ++ fitting bs d count

pub start : (bs d : List ℕ) (count : ℕ) → count ≤ length d → Keeping bs d count d count 0
start bs d count h = record { room = h; long = refl; past = refl; rest = refl }

module _ (bs d : List ℕ) (count : ℕ) (d' : List ℕ) (at i : ℕ) (k : Keeping bs d count d' at i) where
  first : i < length bs → fitting (drop i bs) d at ≡ fitting (get_or bs i 0 ∷ drop (suc i) bs) d at
  first h = ap (λ (l : List ℕ). fitting l d at) (drop-cons bs i 0 h)

  pub skip : i < length bs → get_or bs i 0 ≡ 10 → Keeping bs d count d' at (i + 1)
  skip h e =
      record {
        room = k.room;
        long = k.long;
        past = k.past;
        rest = rw add-one (ap (λ (l : List ℕ). take at d' ++ l) (sym (first h ∙ fitting_10 _ _ _ _ e)) ∙ k.rest);
      }

  pub store : i < length bs → get_or bs i 0 ≢ 10 → at < length d' → Keeping bs d count (set d' at (get_or bs i 0)) (at + 1) (i + 1)
  store h e r =
      let b : ℕ = get_or bs i 0 in
      let q : fitting (drop i bs) d at ≡ b ∷ fitting (drop (suc i) bs) d (at + 1) = first h ∙ fitting_letter _ _ _ _ e (omega (arith, k.long)) in
      record {
        room = rw length-set (omega arith);
        long = length-set d' at b ∙ k.long;
        past =
            drop-set-lt (at + 1) d' at b (omega arith)
            ∙ sym (drop-drop 1 at d')
            ∙ ap (λ (l : List ℕ). drop 1 l) k.past
            ∙ drop-drop 1 at d;
        rest =
            ap₂
            (λ (l m : List ℕ). l ++ m)
            (ap (λ (n : ℕ). take n (set d' at b)) (add-one at) ∙ take-suc-set d' at b r)
            (ap (λ (n : ℕ). fitting (drop n bs) d (at + 1)) (add-one i))
            ∙ append_assoc (take at d') (b ∷ []) (fitting (drop (suc i) bs) d (at + 1))
            ∙ ap (λ (l : List ℕ). take at d' ++ l) (sym q)
            ∙ k.rest;
      }

  done : fitting (drop i bs) d at ≡ [] → count ≤ length d → Written (fitting bs d count) d count d' at
  done e h =
      written_by h k.room (sym (append-nil (take at d')) ∙ ap (λ (l : List ℕ). take at d' ++ l) (sym e) ∙ k.rest) k.past

  pub full : count ≤ length d → length d' ≤ at → Written (fitting bs d count) d count d' at
  full h f = done (fitting_full (drop i bs) d at (omega (arith, k.long))) h

  pub ended : count ≤ length d → length bs ≤ i → Written (fitting bs d count) d count d' at
  ended h e = done (ap (λ (l : List ℕ). fitting l d at) (drop_of_length-le bs e) ∙ fitting_none d at) h

letters_append : (bs cs : List ℕ) → letters_of (bs ++ cs) ≡ letters_of bs ++ letters_of cs
unfolding letters_of
letters_append [] cs = refl
letters_append (b ∷ bs) cs = rw (letters_append bs cs) (go (letters_of bs) (eqb b 10))
  where
    go : (ls : List ℕ) (t : Bool) → cond t (ls ++ letters_of cs) (b ∷ (ls ++ letters_of cs)) ≡ cond t ls (b ∷ ls) ++ letters_of cs
    go ls true = refl
    go ls false = refl

take_both : (n : ℕ) (xs ys : List ℕ) → take n (xs ++ ys) ≡ take n xs ++ take (n - length (take n xs)) ys
take_both zero xs ys = refl
take_both (suc n) [] ys = let e : suc n - 0 ≡ suc n = omega arith in rw e
take_both (suc n) (x ∷ xs) ys =
    let e : suc n - suc (length (take n xs)) ≡ n - length (take n xs) = omega arith in
    rw e (ap (λ (l : List ℕ). x ∷ l) (take_both n xs ys))

-- Nothing was read yet.
pub held_nothing : (d : List ℕ) → Held [] d 0
unfolding letters_of
held_nothing d = record { letters_are = sym (take-nil (length d)) }

-- A block joins what was read before it.
pub held_next : (bs : List ℕ) {d d' : List ℕ} {count end : ℕ} → count ≤ length d → length d' ≡ length d → Written (fitting bs d count) d count d' end
    → (bytes : List ℕ) → Held bytes d count → Held (bytes ++ bs) d' end
unfolding fitting
held_next bs {d} {d'} {count} {end} h l w bytes k =
    let n : count ≡ length (take (length d) (letters_of bytes)) =
    sym (length-take-le count d h) ∙ ap (λ (l : List ℕ). length l) k.letters_are in
    record {
      letters_are =
          take_written h w
          ∙ ap₂ (λ (l : List ℕ) (m : ℕ). l ++ take (length d - m) (letters_of bs)) k.letters_are n
          ∙ sym (take_both (length d) (letters_of bytes) (letters_of bs))
          ∙ ap₂ (λ (m : ℕ) (l : List ℕ). take m l) (sym l) (sym (letters_append bytes bs));
    }
