-- How often a k-mer stands among places that were joined, dropped or lowered, and `Counted`: a list of counts that holds the counts of some places.
use Rattle.std.proofs.Common.{◌≡◌, refl, sym, ap, ◌∙◌, subst, ℕ, zero, suc, ◌+◌, ◌-◌, ◌≤◌, ◌<◌, arith, Bool, true, false, cond, List, [], ◌∷◌, ◌++◌, reverse, length, get_or, take, drop, replicate, length-set, take-append-drop, get_or-set_same, get_or-set_other, eqb}
use mathlib.Core.List.{reverse-cons}
use lib.ListN.{length-replicate}
use borrow.Author.Tests.{eqb-true, eqb-false, eq-eqb, ne_eqb}
use Rattle.letters.specs.Place.{Place, ambiguous, plain, BelowAt, Below}
use Rattle.scans.specs.Counts.{hit, count, raise, lower}
pub use Rattle.scans.specs.Terms.Counted.{Counted}

pub hit_self : (x : ℕ) → hit x (plain x) ≡ 1
hit_self x = rw (eq-eqb x x refl)

pub hit_other : (x y : ℕ) → (x ≡ y → ⊥) → hit x (plain y) ≡ 0
hit_other x y h = rw (ne_eqb x y h)

hit_le : (x : ℕ) (e : Place) → hit x e ≤ 1
hit_le x ambiguous = omega arith
hit_le x (plain y) = go (eqb x y)
  where
    go : (b : Bool) → cond b 1 0 ≤ 1
    go true = omega arith
    go false = omega arith

pub count_append : (x : ℕ) (q r : List Place) → count x (q ++ r) ≡ count x q + count x r
count_append x [] r = omega arith
count_append x (e ∷ q) r = omega (arith, count_append x q r)

pub count_snoc : (x : ℕ) (q : List Place) (e : Place) → count x (q ++ e ∷ []) ≡ hit x e + count x q
count_snoc x q e = omega (arith, count_append x q (e ∷ []))

pub count_reverse : (x : ℕ) (q : List Place) → count x (reverse q) ≡ count x q
count_reverse x [] = refl
count_reverse x (e ∷ q) = ap (λ (l : List Place). count x l) (reverse-cons e q) ∙ omega (arith, count_snoc x (reverse q) e, count_reverse x q)

pub count_le : (x : ℕ) (q : List Place) → count x q ≤ length q
count_le x [] = omega arith
count_le x (e ∷ q) = omega (arith, count_le x q, hit_le x e)

-- ---- Places whose k-mers lie below m.
module _ (m : ℕ) where
  pub below_left : (q r : List Place) → Below m (q ++ r) → Below m q
  below_left [] r a = tt
  below_left (e ∷ q) r a = (a.0, below_left q r a.1)

  pub below_right : (q r : List Place) → Below m (q ++ r) → Below m r
  below_right [] r a = a
  below_right (e ∷ q) r a = below_right q r a.1

  pub below_drop : (j : ℕ) (q : List Place) → Below m q → Below m (drop j q)
  below_drop zero q a = a
  below_drop (suc j) [] a = tt
  below_drop (suc j) (e ∷ q) a = below_drop j q a.1

  pub below_take : (j : ℕ) (q : List Place) → Below m q → Below m (take j q)
  below_take j q a = below_left (take j q) (drop j q) (subst (λ (z : List Place). Below m z) (sym (take-append-drop j q)) a)

  below_join : (q r : List Place) → Below m q → Below m r → Below m (q ++ r)
  below_join [] r a b = b
  below_join (e ∷ q) r a b = (a.0, below_join q r a.1 b)

  pub below_reverse : (q : List Place) → Below m q → Below m (reverse q)
  below_reverse [] a = tt
  below_reverse (e ∷ q) a = subst (λ (l : List Place). Below m l) (sym (reverse-cons e q)) (below_join (reverse q) (e ∷ []) (below_reverse q a.1) (a.0, tt))

-- ---- Counts kept in a list, one for each k-mer below m.
module _ (counts : List ℕ) (x y : ℕ) (l : x < length counts) where
  raise_at : (b : Bool) → eqb y x ≡ b → get_or (raise counts (plain x)) y 0 ≡ hit y (plain x) + get_or counts y 0
  raise_at true e =
      subst (λ (z : ℕ). get_or (raise counts (plain x)) z 0 ≡ hit z (plain x) + get_or counts z 0) (sym (eqb-true y x e))
      (get_or-set_same counts x (get_or counts x 0 + 1) 0 l ∙ omega (arith, hit_self x))
  raise_at false e = get_or-set_other counts x y (get_or counts x 0 + 1) 0 (eqb-false y x e) ∙ omega (arith, hit_other y x (eqb-false y x e))

  lower_at : (b : Bool) → eqb y x ≡ b → get_or (lower counts (plain x)) y 0 ≡ get_or counts y 0 - hit y (plain x)
  lower_at true e =
      subst (λ (z : ℕ). get_or (lower counts (plain x)) z 0 ≡ get_or counts z 0 - hit z (plain x)) (sym (eqb-true y x e))
      (get_or-set_same counts x (get_or counts x 0 - 1) 0 l ∙ ap (λ (z : ℕ). get_or counts x 0 - z) (sym (hit_self x)))
  lower_at false e = get_or-set_other counts x y (get_or counts x 0 - 1) 0 (eqb-false y x e) ∙ omega (arith, hit_other y x (eqb-false y x e))

pub raise_length : (counts : List ℕ) (e : Place) → length (raise counts e) ≡ length counts
raise_length counts ambiguous = refl
raise_length counts (plain x) = length-set counts x (get_or counts x 0 + 1)

pub raise_hit : (counts : List ℕ) (e : Place) (y : ℕ) → BelowAt (length counts) e → get_or (raise counts e) y 0 ≡ hit y e + get_or counts y 0
raise_hit counts ambiguous y l = omega arith
raise_hit counts (plain x) y l = raise_at counts x y l (eqb y x) refl

module _ (m : ℕ) (counts : List ℕ) where
  -- The newest place joins.
  pub raise_counted : (q : List Place) (e : Place) → BelowAt m e → Counted m counts q → Counted m (raise counts e) (q ++ e ∷ [])
  raise_counted q ambiguous b c = record { long = c.long; counted = λ x. c.counted x ∙ omega (arith, count_snoc x q ambiguous) }
  raise_counted q (plain x) b c =
      record {
        long = length-set counts x (get_or counts x 0 + 1) ∙ c.long;
        counted = λ y. raise_at counts x y (omega (arith, c.long)) (eqb y x) refl ∙ omega (arith, c.counted y, count_snoc y q (plain x));
      }

  -- The oldest place leaves.
  pub lower_counted : (e : Place) (q : List Place) → BelowAt m e → Counted m counts (e ∷ q) → Counted m (lower counts e) q
  lower_counted ambiguous q b c = record { long = c.long; counted = λ x. c.counted x ∙ omega arith }
  lower_counted (plain x) q b c =
      record {
        long = length-set counts x (get_or counts x 0 - 1) ∙ c.long;
        counted = λ y. lower_at counts x y (omega (arith, c.long)) (eqb y x) refl ∙ omega (arith, c.counted y);
      }

  -- The newest place leaves.
  pub lower_newest : (q : List Place) (e : Place) → BelowAt m e → Counted m counts (q ++ e ∷ []) → Counted m (lower counts e) q
  lower_newest q e b c = lower_counted e q b (record { long = c.long; counted = λ x. c.counted x ∙ count_snoc x q e })

replicate_zero : (m x : ℕ) → ◌≡◌ {A = ℕ} (get_or (replicate m 0) x 0) 0
replicate_zero zero x = refl
replicate_zero (suc m) zero = refl
replicate_zero (suc m) (suc x) = replicate_zero m x

pub cleared_counted : (m : ℕ) → Counted m (replicate m 0) []
cleared_counted m = record { long = length-replicate m 0; counted = λ x. replicate_zero m x }
