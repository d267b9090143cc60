-- Writers in a list, one after the other.
use Rattle.std.proofs.Common.{◌≡◌, ◌≢◌, ℕ, zero, suc, ◌+◌, ◌<◌, ◌≤◌, min, ltb, eqb, List, [], ◌∷◌, map, length, get_or, set, refl, sym, ap, ◌∙◌, arith, subst, None, eqb-true, ltb-true, ltb-false, length-set}
use Rattle.std.proofs.lemmas.Bool.{eqb-false}
use Rattle.std.proofs.lemmas.List.{map-set, get_or-set_same, get_or-set_other, get_or-map, get_or_past}
use Rattle.std.specs.Prelude.{Option}
use Rattle.std.specs.Io.KnownBytes.{Appends}
use Rattle.std.proofs.KnownBytes.{Appends-nil}
use Rattle.entries.specs.Outcome.{Front, held, AllAppend, StopsAt}
use Rattle.entries.proofs.Lines.{by_test}
use Rattle.forms.specs.declared.form.Form.{Form}
use Rattle.forms.specs.Form.{by_form}

abbrev pub Writers : Type 0
Writers = List (Option (List ℕ))

-- ---- Forms.
module _ (text : Form → List ℕ) where
  pub form_at : (fs : List Form) (i : ℕ) (d : Form) → i < length fs → by_form text fs i ≡ text (get_or fs i d)
  unfolding by_form
  form_at [] i d h = absurd (let z : ⊥ = omega arith in z)
  form_at (f ∷ fs) zero d h = refl
  form_at (f ∷ fs) (suc i) d h = form_at fs i d (omega arith)

  form_past : (fs : List Form) (i : ℕ) → length fs ≤ i → by_form text fs i ≡ []
  unfolding by_form
  form_past [] i h = refl
  form_past (f ∷ fs) zero h = absurd (let z : ⊥ = omega arith in z)
  form_past (f ∷ fs) (suc i) h = form_past fs i (omega arith)

-- ---- Writers.
-- The writers before n got what g says of them, the others nothing.
pub record UpTo (n : ℕ) (a b : Writers) (g : ℕ → List ℕ) : Type 0 where
  pub before : (i : ℕ) → i < n → Appends (held a i) (held b i) (g i)
  pub after : (i : ℕ) → n ≤ i → held b i ≡ held a i

-- Nothing is written.
pub none_sent : (a : Writers) (g : ℕ → List ℕ) → StopsAt 0 a a (λ i. []) g
none_sent a g =
    record {
      before = λ i h. absurd (let z : ⊥ = omega arith in z);
      stopped = (0, omega arith, Appends-nil (held a 0));
      after = λ i h. Appends-nil (held a i);
    }

pub upto_start : (a : Writers) (g : ℕ → List ℕ) → UpTo 0 a a g
upto_start a g = record { before = λ i h. absurd (let z : ⊥ = omega arith in z); after = λ i h. refl }

appends_as : (a a' b b' : Option (List ℕ)) (xs ys : List ℕ) → a ≡ a' → b ≡ b' → xs ≡ ys → Appends a b xs → Appends a' b' ys
appends_as a a' b b' xs ys p q r h = rw (sym p, sym q, sym r) h

front_as : (a a' b b' : Option (List ℕ)) (xs ys : List ℕ) → a ≡ a' → b ≡ b' → xs ≡ ys → Front a b xs → Front a' b' ys
front_as a a' b b' xs ys p q r h = rw (sym p, sym q, sym r) h

module _ {W : Type 0} (f : W → Option (List ℕ)) (a : Writers) (ws : List W) (n : ℕ) (x w : W) (g : ℕ → List ℕ) (t : List ℕ) (h : n < length ws)
    (text : t ≡ g n) (u : UpTo n a (map f ws) g) where
  abbrev next : Writers
  next = map f (set ws n w)

  here : held next n ≡ f w
  here = get_or-map f (set ws n w) n x None (omega (arith, length-set ws n w)) ∙ ap f (get_or-set_same ws n w x h)

  was : f (get_or ws n x) ≡ held a n
  was = sym (get_or-map f ws n x None h) ∙ u.after n (omega arith)

  other : (i : ℕ) → i ≢ n → held next i ≡ held (map f ws) i
  other i e = ap (λ (l : Writers). held l i) (map-set f ws n w) ∙ get_or-set_other (map f ws) n i (f w) None e

  before_n : (i : ℕ) → i < n → Appends (held a i) (held next i) (g i)
  before_n i k = subst (λ (o : Option (List ℕ)). Appends (held a i) o (g i)) (sym (other i (let z : i ≢ n = omega arith in z))) (u.before i k)

  after_n : (i : ℕ) → n < i → held next i ≡ held a i
  after_n i k = other i (let z : i ≢ n = omega arith in z) ∙ u.after i (omega arith)

  pub upto_more : Appends (f (get_or ws n x)) (f w) t → UpTo (n + 1) a next g
  upto_more p =
      record {
        before = λ i k. by_test (eqb i n)
            (λ e. subst (λ (j : ℕ). Appends (held a j) (held next j) (g j)) (sym (eqb-true i n e)) (appends_as _ _ _ _ _ _ was (sym here) text p))
            (λ e. before_n i (let m : i ≢ n = eqb-false i n e in omega arith));
        after = λ i k. after_n i (omega arith);
      }

  pub upto_stop : Front (f (get_or ws n x)) (f w) t → StopsAt n a next (λ i. []) g
  upto_stop p =
      record {
        before = before_n;
        stopped = front_as _ _ _ _ _ _ was (sym here) text p;
        after = λ i k. appends_as _ _ _ _ _ _ refl (sym (after_n i k)) refl (Appends-nil (held a i));
      }

none_known : (a b : Option (List ℕ)) (xs : List ℕ) → a ≡ None → Appends a b xs
none_known a b xs e = subst (λ (o : Option (List ℕ)). Appends o b xs) (sym e) tt

pub upto_all : (text : Form → List ℕ) (fs : List Form) (a b : Writers) (n : ℕ) → n ≡ min (length fs) (length a) → UpTo n a b (by_form text fs) → AllAppend a b (by_form text fs)
upto_all text fs a b n e u = λ i.
    by_test (ltb i n) (λ t. u.before i (ltb-true i n t))
    (λ t. by_test (ltb i (length a)) (λ s.
    appends_as _ _ _ _ _ _ refl (sym (u.after i (ltb-false i n t)))
    (sym (form_past text fs i (let x : i < length a = ltb-true i (length a) s in let y : n ≤ i = ltb-false i n t in omega arith))) (Appends-nil (held a i)))
    (λ s. none_known (held a i) (held b i) (by_form text fs i) (get_or_past a i None (ltb-false i (length a) s))))
