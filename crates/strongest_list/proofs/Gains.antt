-- What places gain by their orders, and sums over blocks of 64 of them with a place more, and with an order that rises.
use Rattle.std.proofs.Common.{◌≡◌, ℕ, zero, suc, ◌+◌, ◌-◌, ◌*◌, ◌<◌, ◌≤◌, min, max, Bool, true, false, cond, List, length, get_or, set, refl, sym, ap, ap₂, ◌∙◌, subst, arith, ◌⊎◌, inl, inr, ⊎_elim, eqb, eqb-true, eq-or-lt_of_le, length-set, get_or-set_same, get_or-set_other}
use borrow.Author.Tests.{eqb-false, ne_eqb}
use Rattle.intervals.proofs.Order.{lt_or_le}
use Rattle.strongest.specs.Terms.Reading.{Narrow}
use Rattle.strongest.proofs.Largest.{largest_at}
use Rattle.strongest_list.specs.declared.blocks.Block.{Block}
use Rattle.strongest_list.specs.Terms.Blocks.{no_block, value, gains, high, added, raised, Below_top, Blocked}

pub value_plain : (ln : List ℕ) (c : ℕ) → 0 < c → value ln c ≡ get_or ln c 0
value_plain ln c h = ap (λ (t : Bool). cond t 0 (get_or ln c 0)) (ne_eqb c 0 (λ z. let w : ⊥ = omega arith in w))

pub value_small : (t : ℕ) (ln f : List ℕ) (w c : ℕ) → Narrow t ln f w → c ≤ w → value ln c < 68719476736
value_small t ln f w zero N h = omega arith
value_small t ln f w (suc c) N h = omega (arith, value_plain ln (suc c) (omega arith), largest_at ln w (suc c) (omega arith) h, N.ln_small)

module _ (ln : List ℕ) where
  pub gains_same : (f g : ℕ → ℕ) (p l : ℕ) → ((i : ℕ) → p ≤ i → i < p + l → f i ≡ g i) → gains ln f p l ≡ gains ln g p l
  unfolding gains
  gains_same f g p zero h = refl
  gains_same f g p (suc l) h =
      ap₂ (λ (a b : ℕ). value ln a + b) (h p (omega arith) (omega arith)) (gains_same f g (suc p) l (λ i j k. h i (omega arith) (omega arith)))

  pub gains_split : (f : ℕ → ℕ) (p l m n : ℕ) → n ≡ l + m → gains ln f p n ≡ gains ln f p l + gains ln f (p + l) m
  unfolding gains
  gains_split f p zero m n e =
      let a = ap (gains ln f p) (let z : n ≡ m = omega arith in z) in
      let b = ap (λ (x : ℕ). gains ln f x m) (let z : p + 0 ≡ p = omega arith in z) in
      omega arith
  gains_split f p (suc l) m zero e = absurd (let z : ⊥ = omega arith in z)
  gains_split f p (suc l) m (suc n) e =
      let a = gains_split f (suc p) l m n (omega arith) in
      let b = ap (λ (x : ℕ). gains ln f x m) (let z : suc p + l ≡ p + suc l = omega arith in z) in
      omega arith

  gains_one : (f : ℕ → ℕ) (p : ℕ) → gains ln f p 1 ≡ value ln (f p)
  unfolding gains
  gains_one f p = omega arith

  -- One place more.
  pub gains_snoc : (f : ℕ → ℕ) (p l q : ℕ) → q ≡ p + l → gains ln f p (suc l) ≡ gains ln f p l + value ln (f q)
  gains_snoc f p l q e =
      let a = gains_split f p l 1 (suc l) (omega arith) in
      let b = gains_one f (p + l) in
      let c = ap (λ (x : ℕ). value ln (f x)) e in
      omega arith

  pub gains_cons : (f : ℕ → ℕ) (p l q : ℕ) → suc p ≡ q → gains ln f p (suc l) ≡ value ln (f p) + gains ln f q l
  unfolding gains
  gains_cons f p l q e = let a = ap (λ (x : ℕ). gains ln f x l) e in omega arith

  -- One order changes.
  pub gains_change : (f g : ℕ → ℕ) (p l q : ℕ) → p ≤ q → q < p + l → ((i : ℕ) → (i ≡ q → ⊥) → f i ≡ g i)
      → gains ln g p l + value ln (f q) ≡ gains ln f p l + value ln (g q)
  unfolding gains
  gains_change f g p zero q h k s = absurd (let z : ⊥ = omega arith in z)
  gains_change f g p (suc l) q h k s =
      ⊎_elim
      (λ e.
      let a = gains_same f g (suc p) l (λ i j m. s i (λ z. omega arith)) in
      let b = ap (λ (x : ℕ). value ln (f x)) e in
      let c = ap (λ (x : ℕ). value ln (g x)) e in
      omega arith)
      (λ m.
      let a = gains_change f g (suc p) l q m (omega arith) s in
      let b = ap (value ln) (s p (λ z. omega arith)) in
      omega arith)
      (eq-or-lt_of_le h)

  pub gains_most : (f : ℕ → ℕ) (p l : ℕ) → ((i : ℕ) → p ≤ i → i < p + l → value ln (f i) < 68719476736) → gains ln f p l ≤ l * 68719476736
  unfolding gains
  gains_most f p zero h = omega arith
  gains_most f p (suc l) h =
      let a = gains_most f (suc p) l (λ i j k. h i (omega arith) (omega arith)) in
      let b = h p (omega arith) (omega arith) in
      omega arith

  pub gains_has : (f : ℕ → ℕ) (p l q : ℕ) → p ≤ q → q < p + l → value ln (f q) ≤ gains ln f p l
  unfolding gains
  gains_has f p zero q h k = absurd (let z : ⊥ = omega arith in z)
  gains_has f p (suc l) q h k =
      ⊎_elim
      (λ e. let b = ap (λ (x : ℕ). value ln (f x)) e in omega arith)
      (λ m. let a = gains_has f (suc p) l q m (omega arith) in omega arith)
      (eq-or-lt_of_le h)

-- ---- Numbers.
pub le_or_lt : (p q : ℕ) → (p ≤ q) ⊎ (q < p)
le_or_lt p q = ⊎_elim (λ m. inr m) (λ m. inl m) (lt_or_le q p)

top_kept : (t g l top g' top' : ℕ) → g' ≡ g → top ≤ top' → Below_top t g l top → Below_top t g' l top'
top_kept t g l top g' top' e h k = omega arith

top_added : (t g l v top : ℕ) → t < 68719476736 → Below_top t g l top → g + v + 64 * t ≤ high
    → Below_top t (g + v) (suc l) (min (max top (64 * t) + v - t) high)
top_added t g l v top h k m = let e : suc l * t ≡ l * t + t = omega arith in omega arith

top_first : (t v top : ℕ) → t < 68719476736 → v < 68719476736 → Below_top t v 1 (min (max top (64 * t) + v - t) high)
top_first t v top h k = let e : 1 * t ≡ t = omega arith in omega arith

top_raised : (t g g' l was is top : ℕ) → g' + was ≡ g + is → g' + 64 * t ≤ high → Below_top t g l top → Below_top t g' l (min (top + (is - was)) high)
top_raised t g g' l was is top e h k = omega arith

-- ---- Blocks.
module _ (ln : List ℕ) (t : ℕ) where
  pub blocked_none : (low : ℕ) (f : ℕ → ℕ) (bs : List Block) → ((j : ℕ) → j < length bs → get_or bs j no_block ≡ no_block) → Blocked ln t low 0 f bs
  unfolding gains
  blocked_none low f bs h =
      record {
        gain = λ j i. ap (λ (b : Block). b.gain) (h j i) ∙ ap (gains ln f (64 * j)) (let z : 0 ≡ min 64 (0 - 64 * j) = omega arith in z);
        top = λ j p i a b c d. absurd (let z : ⊥ = omega arith in z);
        top_small = λ j i. let e = ap (λ (b : Block). b.top) (h j i) in omega arith;
      }

  pub blocked_from : (low low' n : ℕ) (f : ℕ → ℕ) (bs : List Block) → low ≤ low' → Blocked ln t low n f bs → Blocked ln t low' n f bs
  blocked_from low low' n f bs h B = record { gain = B.gain; top = λ j p i a b c d. B.top j p i a b (omega arith) d; top_small = B.top_small }

  -- The block of place n, and the others.
  module _ (low n J : ℕ) (f g : ℕ → ℕ) (bs : List Block) (B : Blocked ln t low n f bs) (t_small : t < 68719476736)
      (small : (i : ℕ) → i < n + 1 → value ln (g i) < 68719476736) (same : (i : ℕ) → i < n → f i ≡ g i) (J_in : J < length bs) (J_low : 64 * J ≤ n) (J_high : n < 64 * J + 64) where
    abbrev v : ℕ
    v = value ln (g n)

    abbrev bs' : List Block
    bs' = set bs J (added (get_or bs J no_block) v t)

    as_f : (p l : ℕ) → ((i : ℕ) → p ≤ i → i < p + l → i < n) → gains ln g p l ≡ gains ln f p l
    as_f p l h = sym (gains_same ln f g p l (λ i a b. same i (h i a b)))

    gain_at : (j : ℕ) → j < length bs → (b : Bool) → eqb j J ≡ b → (get_or bs' j no_block).gain ≡ gains ln g (64 * j) (min 64 (suc n - 64 * j))
    gain_at j i true e =
        let same_j : j ≡ J = eqb-true j J e in
        let x = ap (λ (k : ℕ). get_or bs' k no_block) same_j ∙ get_or-set_same bs J (added (get_or bs J no_block) v t) no_block J_in in
        let y : (get_or bs' j no_block).gain ≡ (get_or bs J no_block).gain + v = ap (λ (b : Block). b.gain) x in
        let z = B.gain J J_in in
        let l : ℕ = n - 64 * J in
        let a : gains ln f (64 * J) (min 64 (n - 64 * J)) ≡ gains ln f (64 * J) l = ap (gains ln f (64 * J)) (let q : min 64 (n - 64 * J) ≡ l = omega arith in q) in
        let b : gains ln g (64 * J) l ≡ gains ln f (64 * J) l = as_f (64 * J) l (λ i a b. omega arith) in
        let c : gains ln g (64 * J) (suc l) ≡ gains ln g (64 * J) l + v = gains_snoc ln g (64 * J) l n (omega arith) in
        let d : gains ln g (64 * j) (min 64 (suc n - 64 * j)) ≡ gains ln g (64 * J) (suc l) =
        ap₂ (λ (p m : ℕ). gains ln g p m) (ap (λ (k : ℕ). 64 * k) same_j) (let q : min 64 (suc n - 64 * j) ≡ suc l = omega arith in q) in
        y ∙ (let q : (get_or bs J no_block).gain + v ≡ gains ln g (64 * J) (suc l) = omega (arith, z, a, b, c) in q) ∙ sym d
    gain_at j i false e =
        let ne = eqb-false j J e in
        let m : min 64 (suc n - 64 * j) ≡ min 64 (n - 64 * j) = omega arith in
        ap (λ (b : Block). b.gain) (get_or-set_other bs J j (added (get_or bs J no_block) v t) no_block ne)
        ∙ B.gain j i
        ∙ sym (as_f (64 * j) (min 64 (n - 64 * j)) (λ i a b. omega arith))
        ∙ sym (ap (gains ln g (64 * j)) m)

    top_here : (p : ℕ) → 64 * J ≤ p → low ≤ p → p < n + 1 → Below_top t (gains ln g p (suc n - p)) (suc n - p) (min (max (get_or bs J no_block).top (64 * t) + v - t) high)
    top_here p a c d =
        ⊎_elim
        (λ (q : p < n).
        let l : ℕ = n - p in
        let old : Below_top t (gains ln f p l) l (get_or bs J no_block).top =
        subst (λ (e : ℕ). Below_top t (gains ln f p (e - p)) (e - p) (get_or bs J no_block).top) (let z : min (64 * J + 64) n ≡ n = omega arith in z) (B.top J p J_in a (omega arith) c q) in
        let g_is : gains ln g p (suc l) ≡ gains ln f p l + v = gains_snoc ln g p l n (omega arith) ∙ ap (λ (x : ℕ). x + v) (as_f p l (λ i x y. omega arith)) in
        let most = gains_most ln g p (suc l) (λ i x y. small i (omega arith)) in
        subst (λ (e : ℕ). Below_top t (gains ln g p e) e (min (max (get_or bs J no_block).top (64 * t) + v - t) high)) (let z : suc l ≡ suc n - p = omega arith in z)
        (subst (λ (e : ℕ). Below_top t e (suc l) (min (max (get_or bs J no_block).top (64 * t) + v - t) high)) (sym g_is)
        (top_added t (gains ln f p l) l v (get_or bs J no_block).top t_small old (omega (arith, most, g_is)))))
        (λ (q : n ≤ p).
        let e : p ≡ n = omega arith in
        subst (λ (x : ℕ). Below_top t (gains ln g x (suc n - x)) (suc n - x) (min (max (get_or bs J no_block).top (64 * t) + v - t) high)) (sym e)
        (subst (λ (x : ℕ). Below_top t (gains ln g n x) x (min (max (get_or bs J no_block).top (64 * t) + v - t) high)) (let z : 1 ≡ suc n - n = omega arith in z)
        (subst (λ (x : ℕ). Below_top t x 1 (min (max (get_or bs J no_block).top (64 * t) + v - t) high)) (sym (gains_one ln g n))
        (top_first t v (get_or bs J no_block).top t_small (small n (omega arith))))))
        (lt_or_le p n)

    top_at : (j p : ℕ) → j < length bs → 64 * j ≤ p → p < 64 * j + 64 → low ≤ p → p < n + 1 → (b : Bool) → eqb j J ≡ b
        → Below_top t (gains ln g p (min (64 * j + 64) (suc n) - p)) (min (64 * j + 64) (suc n) - p) (get_or bs' j no_block).top
    top_at j p i a b c d true e =
        let same_j : j ≡ J = eqb-true j J e in
        let x = ap (λ (k : ℕ). get_or bs' k no_block) same_j ∙ get_or-set_same bs J (added (get_or bs J no_block) v t) no_block J_in in
        subst (λ (k : ℕ). Below_top t (gains ln g p (k - p)) (k - p) (get_or bs' j no_block).top) (let z : suc n ≡ min (64 * j + 64) (suc n) = omega arith in z)
        (subst (λ (k : Block). Below_top t (gains ln g p (suc n - p)) (suc n - p) k.top) (sym x) (top_here p (omega arith) c d))
    top_at j p i a b c d false e =
        let ne = eqb-false j J e in
        let x = get_or-set_other bs J j (added (get_or bs J no_block) v t) no_block ne in
        let m : min (64 * j + 64) n ≡ min (64 * j + 64) (suc n) = omega arith in
        let old = B.top j p i a b c (omega arith) in
        subst (λ (k : ℕ). Below_top t (gains ln g p (k - p)) (k - p) (get_or bs' j no_block).top) m
        (subst (λ (k : Block). Below_top t (gains ln g p (min (64 * j + 64) n - p)) (min (64 * j + 64) n - p) k.top) (sym x)
        (top_kept t (gains ln f p (min (64 * j + 64) n - p)) (min (64 * j + 64) n - p) (get_or bs j no_block).top (gains ln g p (min (64 * j + 64) n - p)) (get_or bs j no_block).top
        (as_f p (min (64 * j + 64) n - p) (λ i x y. omega arith)) (omega arith) old))

    small_at : (j : ℕ) → j < length bs → (b : Bool) → eqb j J ≡ b → (get_or bs' j no_block).top ≤ high
    small_at j i true e =
        let x = ap (λ (k : ℕ). get_or bs' k no_block) (eqb-true j J e) ∙ get_or-set_same bs J (added (get_or bs J no_block) v t) no_block J_in in
        let y = ap (λ (b : Block). b.top) x in
        omega arith
    small_at j i false e = let y = ap (λ (b : Block). b.top) (get_or-set_other bs J j (added (get_or bs J no_block) v t) no_block (eqb-false j J e)) in omega (arith, B.top_small j i)

    pub blocked_added : Blocked ln t low (suc n) g bs'
    blocked_added =
        let long = length-set bs J (added (get_or bs J no_block) v t) in
        record {
          gain = λ j i. gain_at j (omega arith) (eqb j J) refl;
          top = λ j p i a b c d. top_at j p (omega arith) a b c (omega arith) (eqb j J) refl;
          top_small = λ j i. small_at j (omega arith) (eqb j J) refl;
        }

  -- The order of place q rises.
  module _ (low n q J : ℕ) (f g : ℕ → ℕ) (bs : List Block) (B : Blocked ln t low n f bs) (t_small : t < 68719476736)
      (small : (i : ℕ) → i < n → value ln (g i) < 68719476736) (same : (i : ℕ) → (i ≡ q → ⊥) → f i ≡ g i) (q_in : q < n) (J_in : J < length bs) (J_low : 64 * J ≤ q) (J_high : q < 64 * J + 64) where
    abbrev was : ℕ
    was = value ln (f q)

    abbrev is : ℕ
    is = value ln (g q)

    abbrev now : List Block
    now = set bs J (raised (get_or bs J no_block) was is)

    others : (p l : ℕ) → ((i : ℕ) → p ≤ i → i < p + l → i ≡ q → ⊥) → gains ln g p l ≡ gains ln f p l
    others p l h = sym (gains_same ln f g p l (λ i a b. same i (h i a b)))

    raised_gain : (j : ℕ) → j < length bs → (b : Bool) → eqb j J ≡ b → (get_or now j no_block).gain ≡ gains ln g (64 * j) (min 64 (n - 64 * j))
    raised_gain j i true e =
        let same_j : j ≡ J = eqb-true j J e in
        let x = ap (λ (k : ℕ). get_or now k no_block) same_j ∙ get_or-set_same bs J (raised (get_or bs J no_block) was is) no_block J_in in
        let y : (get_or now j no_block).gain ≡ (get_or bs J no_block).gain + is - was = ap (λ (b : Block). b.gain) x in
        let z = B.gain J J_in in
        let c = gains_change ln f g (64 * J) (min 64 (n - 64 * J)) q J_low (omega arith) same in
        let d : gains ln g (64 * j) (min 64 (n - 64 * j)) ≡ gains ln g (64 * J) (min 64 (n - 64 * J)) = ap (λ (k : ℕ). gains ln g (64 * k) (min 64 (n - 64 * k))) same_j in
        y ∙ (let m : (get_or bs J no_block).gain + is - was ≡ gains ln g (64 * J) (min 64 (n - 64 * J)) = omega (arith, z, c) in m) ∙ sym d
    raised_gain j i false e =
        ap (λ (b : Block). b.gain) (get_or-set_other bs J j (raised (get_or bs J no_block) was is) no_block (eqb-false j J e))
        ∙ B.gain j i
        ∙ sym (others (64 * j) (min 64 (n - 64 * j)) (λ x a b c. let ne = eqb-false j J e in ne (omega arith)))

    raised_top : (j p : ℕ) → j < length bs → 64 * j ≤ p → p < 64 * j + 64 → low ≤ p → p < n → (b : Bool) → eqb j J ≡ b
        → Below_top t (gains ln g p (min (64 * j + 64) n - p)) (min (64 * j + 64) n - p) (get_or now j no_block).top
    raised_top j p i a b c d true e =
        let same_j : j ≡ J = eqb-true j J e in
        let x = ap (λ (k : ℕ). get_or now k no_block) same_j ∙ get_or-set_same bs J (raised (get_or bs J no_block) was is) no_block J_in in
        let l : ℕ = min (64 * j + 64) n - p in
        let old : Below_top t (gains ln f p l) l (get_or bs J no_block).top = subst (λ (k : ℕ). Below_top t (gains ln f p l) l (get_or bs k no_block).top) same_j (B.top j p i a b c d) in
        let most = gains_most ln g p l (λ i x y. small i (omega arith)) in
        subst (λ (k : Block). Below_top t (gains ln g p l) l k.top) (sym x)
        (⊎_elim
        (λ (m : p ≤ q). top_raised t (gains ln f p l) (gains ln g p l) l was is (get_or bs J no_block).top (gains_change ln f g p l q m (omega arith) same) (omega (arith, most)) old)
        (λ (m : q < p).
        let s = B.top_small J J_in in
        top_kept t (gains ln f p l) l (get_or bs J no_block).top (gains ln g p l) (min ((get_or bs J no_block).top + (is - was)) high) (others p l (λ i x y z. omega arith)) (omega arith) old)
        (le_or_lt p q))
    raised_top j p i a b c d false e =
        let ne = eqb-false j J e in
        let l : ℕ = min (64 * j + 64) n - p in
        subst (λ (k : Block). Below_top t (gains ln g p l) l k.top) (sym (get_or-set_other bs J j (raised (get_or bs J no_block) was is) no_block ne))
        (top_kept t (gains ln f p l) l (get_or bs j no_block).top (gains ln g p l) (get_or bs j no_block).top (others p l (λ x y z m. ne (omega arith))) (omega arith) (B.top j p i a b c d))

    raised_small : (j : ℕ) → j < length bs → (b : Bool) → eqb j J ≡ b → (get_or now j no_block).top ≤ high
    raised_small j i true e =
        let y = ap (λ (b : Block). b.top) (ap (λ (k : ℕ). get_or now k no_block) (eqb-true j J e) ∙ get_or-set_same bs J (raised (get_or bs J no_block) was is) no_block J_in) in
        omega arith
    raised_small j i false e = let y = ap (λ (b : Block). b.top) (get_or-set_other bs J j (raised (get_or bs J no_block) was is) no_block (eqb-false j J e)) in omega (arith, B.top_small j i)

    pub blocked_raised : Blocked ln t low n g now
    blocked_raised =
        let long = length-set bs J (raised (get_or bs J no_block) was is) in
        record {
          gain = λ j i. raised_gain j (omega arith) (eqb j J) refl;
          top = λ j p i a b c d. raised_top j p (omega arith) a b c d (eqb j J) refl;
          top_small = λ j i. raised_small j (omega arith) (eqb j J) refl;
        }

    -- The block gains what the place does.
    pub block_has : was ≤ (get_or bs J no_block).gain
    block_has = omega (arith, B.gain J J_in, gains_has ln f (64 * J) (min 64 (n - 64 * J)) q J_low (omega arith))

  pub block_small : (low n J : ℕ) (f : ℕ → ℕ) (bs : List Block) → Blocked ln t low n f bs → ((i : ℕ) → i < n → value ln (f i) < 68719476736) → J < length bs → (get_or bs J no_block).gain ≤ 4398046511104
  block_small low n J f bs B small h = omega (arith, B.gain J h, gains_most ln f (64 * J) (min 64 (n - 64 * J)) (λ i x y. small i (omega arith)))

  -- The top of block J was made anew, from place `from` on.
  pub blocked_top : (low n J from top : ℕ) (f : ℕ → ℕ) (bs : List Block) → Blocked ln t low n f bs → J < length bs → from ≡ max low (64 * J) → top ≤ high
      → ((p : ℕ) → from ≤ p → p < min (64 * J + 64) n → Below_top t (gains ln f p (min (64 * J + 64) n - p)) (min (64 * J + 64) n - p) top)
      → Blocked ln t low n f (set bs J (record { gain = (get_or bs J no_block).gain; top = top }))
  blocked_top low n J from top f bs B inside e small h =
      let long = length-set bs J new in
      record {
        gain = λ j i. ap (λ (x : ℕ). x) (gain_is j (eqb j J) refl) ∙ B.gain j (omega arith);
        top = λ j p i a b c d. top_is j p (omega arith) a b c d (eqb j J) refl;
        top_small = λ j i. small_is j (omega arith) (eqb j J) refl;
      }
    where
      new : Block
      new = record { gain = (get_or bs J no_block).gain; top = top }

      gain_is : (j : ℕ) → (b : Bool) → eqb j J ≡ b → (get_or (set bs J new) j no_block).gain ≡ (get_or bs j no_block).gain
      gain_is j true q =
          ap (λ (b : Block). b.gain) (ap (λ (k : ℕ). get_or (set bs J new) k no_block) (eqb-true j J q) ∙ get_or-set_same bs J new no_block inside)
          ∙ ap (λ (k : ℕ). (get_or bs k no_block).gain) (sym (eqb-true j J q))
      gain_is j false q = ap (λ (b : Block). b.gain) (get_or-set_other bs J j new no_block (eqb-false j J q))

      top_is : (j p : ℕ) → j < length bs → 64 * j ≤ p → p < 64 * j + 64 → low ≤ p → p < n → (b : Bool) → eqb j J ≡ b
          → Below_top t (gains ln f p (min (64 * j + 64) n - p)) (min (64 * j + 64) n - p) (get_or (set bs J new) j no_block).top
      top_is j p i a b c d true q =
          let same_j : j ≡ J = eqb-true j J q in
          let x = ap (λ (k : ℕ). get_or (set bs J new) k no_block) same_j ∙ get_or-set_same bs J new no_block inside in
          subst (λ (k : Block). Below_top t (gains ln f p (min (64 * j + 64) n - p)) (min (64 * j + 64) n - p) k.top) (sym x)
          (subst (λ (k : ℕ). Below_top t (gains ln f p (min (64 * k + 64) n - p)) (min (64 * k + 64) n - p) top) (sym same_j) (h p (omega arith) (omega arith)))
      top_is j p i a b c d false q =
          subst (λ (k : Block). Below_top t (gains ln f p (min (64 * j + 64) n - p)) (min (64 * j + 64) n - p) k.top) (sym (get_or-set_other bs J j new no_block (eqb-false j J q)))
          (B.top j p i a b c d)

      small_is : (j : ℕ) → j < length bs → (b : Bool) → eqb j J ≡ b → (get_or (set bs J new) j no_block).top ≤ high
      small_is j i true q =
          let y = ap (λ (b : Block). b.top) (ap (λ (k : ℕ). get_or (set bs J new) k no_block) (eqb-true j J q) ∙ get_or-set_same bs J new no_block inside) in
          omega arith
      small_is j i false q = let y = ap (λ (b : Block). b.top) (get_or-set_other bs J j new no_block (eqb-false j J q)) in omega (arith, B.top_small j i)
