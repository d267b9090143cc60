-- A loop that fills the front of a buffer d with the entries of a list xs, one store a turn: after i turns the buffer is `part xs d i`.
use Rattle.std.proofs.Common.{◌≡◌, refl, sym, ap, ◌∙◌, List, ◌∷◌, ◌++◌, append-nil, ℕ, suc, ◌+◌, ◌≤◌, ◌<◌, add-one, arith, length, take, drop, get_or, set, length-set, drop_of_length-le, take-suc, drop-cons, length-take-le}
use lib.Seq.{append_snoc, set_at, take-length}
use Rattle.buffers.specs.Fill.{put}

abbrev pub part {ℓ} : {A : Type ℓ} → List A → List A → ℕ → List A
part xs d i = take i xs ++ drop i d

module _ {ℓ} {A : Type ℓ} (xs d : List A) (fits : length xs ≤ length d) where
  part_more : (z : A) (i : ℕ) → i < length xs → set (part xs d i) i (get_or xs i z) ≡ part xs d (i + 1)
  part_more z i h =
      let h2 : i < length d = omega arith in
      let e : drop i d ≡ get_or d i z ∷ drop (suc i) d = drop-cons d i z h2 in
      ap (λ (l : List A). set (take i xs ++ l) i (get_or xs i z)) e
      ∙ set_at (take i xs) (get_or d i z) (drop (suc i) d) (get_or xs i z) i (length-take-le i xs (omega arith))
      ∙ sym (append_snoc (take i xs) (get_or xs i z) (drop (suc i) d))
      ∙ ap (λ (l : List A). l ++ drop (suc i) d) (sym (take-suc xs i z h))
      ∙ ap (λ (n : ℕ). take n xs ++ drop n d) (sym (add-one i))

  part_all : part xs d (length xs) ≡ put xs d
  part_all = ap (λ (l : List A). l ++ drop (length xs) d) (take-length xs)

-- The same for a loop that says `l ≡ part xs d i`.
module _ {A : Type 0} (xs d l : List A) (i : ℕ) where
  pub part_turn : (z v : A) → l ≡ part xs d i → i < length xs → length xs ≤ length d → v ≡ get_or xs i z → set l i v ≡ part xs d (i + 1)
  part_turn z v e h fits g = rw (e, g) (part_more xs d fits z i h)

  pub part_end : l ≡ part xs d i → i ≤ length xs → length xs ≤ i → l ≡ put xs d
  part_end e h k = e ∙ ap (λ (j : ℕ). part xs d j) (let q : i ≡ length xs = omega arith in q) ∙ ap (λ (m : List A). m ++ drop (length xs) d) (take-length xs)

-- The loop: after i of its n turns the buffer is l.
pub record Fills {A : Type 0} (xs d : List A) (n i : ℕ) (l : List A) : Type 0 where
  pub size : length xs ≡ n
  pub room : n ≤ length d
  pub turns : i ≤ n
  pub long : length l ≡ length d
  pub now : l ≡ part xs d i

module _ {A : Type 0} {xs d : List A} {n : ℕ} where
  pub fill_start : length xs ≡ n → n ≤ length d → Fills xs d n 0 d
  fill_start e h = record { size = e; room = h; turns = omega arith; long = refl; now = refl }

  pub fill_turn : {i : ℕ} {l : List A} → Fills xs d n i l → (z v : A) → i < n → v ≡ get_or xs i z → Fills xs d n (i + 1) (set l i v)
  fill_turn {i = i} {l = l} a z v h e =
      let q = a.size in
      let r = a.room in
      record {
        size = q;
        room = r;
        turns = omega arith;
        long = length-set l i v ∙ a.long;
        now = rw (a.now, e) (part_more xs d (omega arith) z i (omega arith));
      }

  pub fill_end : {i : ℕ} {l : List A} → Fills xs d n i l → n ≤ i → l ≡ put xs d
  fill_end {i = i} a h =
      let q = a.size in
      let r = a.room in
      let t = a.turns in
      let e : i ≡ length xs = omega arith in
      a.now ∙ ap (λ (j : ℕ). part xs d j) e ∙ part_all xs d (omega arith)

-- A buffer filled whole is the list itself.
pub put_all {ℓ} : {A : Type ℓ} (xs d : List A) → length d ≡ length xs → put xs d ≡ xs
put_all {A = A} xs d e = ap (λ (z : List A). xs ++ z) (drop_of_length-le d (let h : length d ≤ length xs = omega arith in h)) ∙ append-nil xs
