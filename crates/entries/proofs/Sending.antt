-- Fronts, one write after the other.
use Rattle.std.proofs.Common.{◌≡◌, ℕ, suc, ◌+◌, List, [], ◌∷◌, ◌++◌, length, take, sym, ap, ◌∙◌, arith, length-append, subst, take_all, Ok, Err}
use Rattle.std.specs.Prelude.{Option, Result}
use Rattle.std.specs.Io.KnownBytes.{Appends}
use Rattle.std.proofs.KnownBytes.{Appends-trans}
use lib.Seq.{take-append-le}
use Rattle.entries.specs.Outcome.{Front, FrontAfter, Sent}

pub take_past : (xs ys : List ℕ) (k : ℕ) → take (length xs + k) (xs ++ ys) ≡ xs ++ take k ys
take_past [] ys k = ap (λ (n : ℕ). take n ys) (let e : 0 + k ≡ k = omega arith in e)
take_past (x ∷ xs) ys k =
    ap (λ (n : ℕ). take n (x ∷ (xs ++ ys))) (let e : suc (length xs) + k ≡ suc (length xs + k) = omega arith in e)
    ∙ ap (λ (l : List ℕ). x ∷ l) (take_past xs ys k)

-- A front of xs, where more should have followed.
pub front_cut : (a b : Option (List ℕ)) (xs ys : List ℕ) → Front a b xs → Front a b (xs ++ ys)
front_cut a b xs ys (k, l, q) = (k, omega (arith, length-append xs ys), subst (λ (zs : List ℕ). Appends a b zs) (sym (take-append-le k xs ys l)) q)

-- After xs, a front of ys.
pub front_then : (a b c : Option (List ℕ)) (xs ys : List ℕ) → Appends a b xs → Front b c ys → Front a c (xs ++ ys)
front_then a b c xs ys p (k, l, q) =
    (length xs + k, omega (arith, length-append xs ys), subst (λ (zs : List ℕ). Appends a c zs) (sym (take_past xs ys k)) (Appends-trans a b c xs (take k ys) p q))

-- The same, told apart.
pub after_front : (a b c : Option (List ℕ)) (xs ys : List ℕ) → Appends a b xs → FrontAfter b c [] ys → FrontAfter a c xs ys
after_front a b c xs ys p (k, l, q) = (k, l, Appends-trans a b c xs (take k ys) p q)

pub front_as : (a b : Option (List ℕ)) (xs ys : List ℕ) → xs ≡ ys → Front a b xs → Front a b ys
front_as a b xs ys e h = subst (λ (l : List ℕ). Front a b l) e h

pub front_none : (a : Option (List ℕ)) (xs : List ℕ) → Appends a a [] → Front a a xs
front_none a xs h = (0, omega arith, h)

pub front_all : (a b : Option (List ℕ)) (xs : List ℕ) → Appends a b xs → Front a b xs
front_all a b xs h = (length xs, omega arith, subst (λ (l : List ℕ). Appends a b l) (sym (take_all (length xs) xs (omega arith))) h)

module _ {A E : Type 0} where
  -- After xs, all of ys or a front of it.
  pub sent_then : (a b c : Option (List ℕ)) (xs ys : List ℕ) (r : Result A E) → Appends a b xs → Sent b c ys r → Sent a c (xs ++ ys) r
  sent_then a b c xs ys (Ok x) p q = Appends-trans a b c xs ys p q
  sent_then a b c xs ys (Err e) p q = front_then a b c xs ys p q

  pub sent_as : (a b : Option (List ℕ)) (xs ys : List ℕ) (r : Result A E) → xs ≡ ys → Sent a b xs r → Sent a b ys r
  sent_as a b xs ys r e h = subst (λ (l : List ℕ). Sent a b l r) e h
