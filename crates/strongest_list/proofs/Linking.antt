-- Places linked by their entries: orders with a place more, and chains.
use Rattle.std.proofs.Common.{◌≡◌, ℕ, zero, suc, ◌+◌, ◌-◌, ◌/◌, ◌%◌, ◌<◌, ◌≤◌, Bool, true, false, cond, List, [], ◌∷◌, ◌++◌, length, refl, sym, ap, ap₂, ◌∙◌, arith, ◌⊎◌, inl, inr, ⊎_elim, eqb, eqb-true, eq-eqb}
use borrow.Author.Tests.{eqb-false, ne_eqb}
use Rattle.intervals.proofs.Order.{lt_or_le}
use Rattle.letters.specs.Place.{Place, ambiguous, plain}
use Rattle.letters.specs.Terms.Entry.{decode}
use Rattle.scans.specs.Counts.{count, hit}
use Rattle.scans.proofs.Counting.{count_snoc, count_le, hit_self, hit_other}
use Rattle.strongest_list.specs.declared.linked.LinkedPlace.{LinkedPlace}
use Rattle.strongest_list.specs.Terms.Blocks.{entry_at}
use Rattle.strongest_list.specs.Terms.Linked.{order, places_in, order_in}

-- ---- Entries.
pub decode_even : (e : ℕ) → e % 2 ≡ 0 → decode e ≡ plain (e / 2)
unfolding decode
decode_even e h = ap (λ (b : Bool). cond b (plain (e / 2)) ambiguous) (eq-eqb (e % 2) 0 h)

pub decode_odd : (e : ℕ) → (e % 2 ≡ 0 → ⊥) → decode e ≡ ambiguous
unfolding decode
decode_odd e h = ap (λ (b : Bool). cond b (plain (e / 2)) ambiguous) (ne_eqb (e % 2) 0 h)

pub even_or : (e : ℕ) → (e % 2 ≡ 0) ⊎ (e % 2 ≡ 0 → ⊥)
even_or e = by (eqb (e % 2) 0) refl
  where
    by : (b : Bool) → eqb (e % 2) 0 ≡ b → (e % 2 ≡ 0) ⊎ (e % 2 ≡ 0 → ⊥)
    by true q = inl (eqb-true (e % 2) 0 q)
    by false q = inr (eqb-false (e % 2) 0 q)

pub same_or : (d e : ℕ) → (d ≡ e) ⊎ (d ≡ e → ⊥)
same_or d e = by (eqb d e) refl
  where
    by : (b : Bool) → eqb d e ≡ b → (d ≡ e) ⊎ (d ≡ e → ⊥)
    by true q = inl (eqb-true d e q)
    by false q = inr (eqb-false d e q)

halves : (d e : ℕ) → d % 2 ≡ 0 → e % 2 ≡ 0 → d / 2 ≡ e / 2 → d ≡ e
halves d e h k i = omega arith

-- ---- Orders.
order_snoc : (q : List Place) (e n : Place) → ((x : ℕ) → e ≡ plain x → hit x n ≡ 0) → order (q ++ (n ∷ [])) e ≡ order q e
order_snoc q ambiguous n h = refl
order_snoc q (plain x) n h = omega (arith, count_snoc x q n, h x refl)

order_more : (q : List Place) (x : ℕ) → order (q ++ (plain x ∷ [])) (plain x) ≡ order q (plain x) + 1
order_more q x = omega (arith, count_snoc x q (plain x), hit_self x)

plain_same : (x y : ℕ) → plain x ≡ plain y → x ≡ y
plain_same x y e = ap (λ (p : Place). number p) e
  where
    number : Place → ℕ
    number ambiguous = 0
    number (plain x) = x

not_plain : (x : ℕ) → ambiguous ≡ plain x → ⊥
not_plain x e = absurd (let z : 0 ≡ 1 = ap kind e in let w : ⊥ = omega arith in w)
  where
    kind : Place → ℕ
    kind ambiguous = 0
    kind (plain x) = 1

pub even_of : (e x : ℕ) → decode e ≡ plain x → e % 2 ≡ 0
even_of e x h = ⊎_elim (λ k. k) (λ k. absurd (not_plain x (sym (decode_odd e k) ∙ h))) (even_or e)

pub odd_of : (e : ℕ) → decode e ≡ ambiguous → e % 2 ≡ 0 → ⊥
odd_of e h k = not_plain (e / 2) (sym h ∙ decode_even e k)

module _ (ps : List LinkedPlace) where
  pub in_snoc : (p l q : ℕ) → q ≡ p + l → places_in ps p (suc l) ≡ places_in ps p l ++ (decode (entry_at ps q) ∷ [])
  unfolding places_in
  in_snoc p zero q e = ap (λ (n : ℕ). decode (entry_at ps n) ∷ []) (let z : p ≡ q = omega arith in z)
  in_snoc p (suc l) q e = ap (λ (r : List Place). decode (entry_at ps p) ∷ r) (in_snoc (suc p) l q (omega arith))

  pub in_length : (p l : ℕ) → length (places_in ps p l) ≡ l
  unfolding places_in
  in_length p zero = refl
  in_length p (suc l) = ap suc (in_length (suc p) l)

  in_next : (p n : ℕ) → p < n → places_in ps (suc p) (suc n - suc p) ≡ places_in ps (suc p) (n - suc p) ++ (decode (entry_at ps n) ∷ [])
  in_next p n h =
      let l : ℕ = n - suc p in
      ap (places_in ps (suc p)) (let z : suc n - suc p ≡ suc l = omega arith in z) ∙ in_snoc (suc p) l n (omega arith)

  -- A place more, of another k-mer, or of the same.
  pub order_same : (p n : ℕ) → p < n → (entry_at ps n % 2 ≡ 0 → entry_at ps p ≡ entry_at ps n → ⊥) → order_in ps p (suc n) ≡ order_in ps p n
  order_same p n h k =
      ap (λ (q : List Place). order q (decode (entry_at ps p))) (in_next p n h)
      ∙ order_snoc (places_in ps (suc p) (n - suc p)) (decode (entry_at ps p)) (decode (entry_at ps n)) missed
    where
      missed : (x : ℕ) → decode (entry_at ps p) ≡ plain x → hit x (decode (entry_at ps n)) ≡ 0
      missed x e =
          ⊎_elim
          (λ (v : entry_at ps n % 2 ≡ 0).
          ⊎_elim
          (λ (u : entry_at ps p % 2 ≡ 0).
          let a : entry_at ps p / 2 ≡ x = plain_same (entry_at ps p / 2) x (sym (decode_even (entry_at ps p) u) ∙ e) in
          ap (hit x) (decode_even (entry_at ps n) v) ∙ hit_other x (entry_at ps n / 2) (λ z. k v (halves (entry_at ps p) (entry_at ps n) u v (omega arith))))
          (λ u. absurd (not_plain x (sym (decode_odd (entry_at ps p) u) ∙ e)))
          (even_or (entry_at ps p)))
          (λ v. ap (hit x) (decode_odd (entry_at ps n) v))
          (even_or (entry_at ps n))

  pub order_up : (p n : ℕ) → p < n → entry_at ps n % 2 ≡ 0 → entry_at ps p ≡ entry_at ps n → order_in ps p (suc n) ≡ order_in ps p n + 1
  order_up p n h v e =
      let x : ℕ = entry_at ps n / 2 in
      let a : decode (entry_at ps p) ≡ plain x = ap decode e ∙ decode_even (entry_at ps n) v in
      let b : decode (entry_at ps n) ≡ plain x = decode_even (entry_at ps n) v in
      let q : List Place = places_in ps (suc p) (n - suc p) in
      ap₂ (λ (r : List Place) (d : Place). order r d) (in_next p n h ∙ ap (λ (d : Place). q ++ (d ∷ [])) b) a ∙ order_more q x ∙ ap (λ (d : Place). order q d + 1) (sym a)

  pub order_few : (q : List Place) (e : Place) → order q e ≤ length q + 1
  order_few q ambiguous = omega arith
  order_few q (plain x) = omega (arith, count_le x q)

  pub order_small : (p n : ℕ) → p < n → order_in ps p n ≤ n - p
  order_small p n h = omega (arith, order_few (places_in ps (suc p) (n - suc p)) (decode (entry_at ps p)), in_length (suc p) (n - suc p))

  pub order_last : (n : ℕ) → order_in ps n (suc n) ≡ order [] (decode (entry_at ps n))
  unfolding places_in
  order_last n = ap (λ (l : ℕ). order (places_in ps (suc n) l) (decode (entry_at ps n))) (let z : suc n - suc n ≡ 0 = omega arith in z)

-- By entries alone.
pub in_same : (ps ps' : List LinkedPlace) (p l : ℕ) → ((i : ℕ) → p ≤ i → i < p + l → entry_at ps' i ≡ entry_at ps i) → places_in ps' p l ≡ places_in ps p l
unfolding places_in
in_same ps ps' p zero h = refl
in_same ps ps' p (suc l) h =
    ap₂ (λ (e : ℕ) (r : List Place). decode e ∷ r) (h p (omega arith) (omega arith)) (in_same ps ps' (suc p) l (λ i a b. h i (omega arith) (omega arith)))

pub order_as : (ps ps' : List LinkedPlace) (p n : ℕ) → p < n → ((i : ℕ) → i < n → entry_at ps' i ≡ entry_at ps i) → order_in ps' p n ≡ order_in ps p n
order_as ps ps' p n h e =
    ap₂ (λ (r : List Place) (d : ℕ). order r (decode d)) (in_same ps ps' (suc p) (n - suc p) (λ i a b. e i (omega arith))) (e p h)

-- ---- How often a k-mer stands.
count_none : (ps : List LinkedPlace) (x p l : ℕ) → ((i : ℕ) → p ≤ i → i < p + l → entry_at ps i % 2 ≡ 0 → entry_at ps i / 2 ≡ x → ⊥) → count x (places_in ps p l) ≡ 0
unfolding places_in
count_none ps x p zero h = refl
count_none ps x p (suc l) h =
    let a = count_none ps x (suc p) l (λ i b c. h i (omega arith) (omega arith)) in
    let b : hit x (decode (entry_at ps p)) ≡ 0 =
    ⊎_elim
    (λ (u : entry_at ps p % 2 ≡ 0). ap (hit x) (decode_even (entry_at ps p) u) ∙ hit_other x (entry_at ps p / 2) (λ z. h p (omega arith) (omega arith) u (sym z)))
    (λ u. ap (hit x) (decode_odd (entry_at ps p) u))
    (even_or (entry_at ps p)) in
    omega arith

count_split : (ps : List LinkedPlace) (x p l m n : ℕ) → n ≡ l + m → count x (places_in ps p n) ≡ count x (places_in ps p l) + count x (places_in ps (p + l) m)
unfolding places_in
count_split ps x p zero m n e =
    let a = ap (λ (k : ℕ). count x (places_in ps p k)) (let z : n ≡ m = omega arith in z) in
    let b = ap (λ (k : ℕ). count x (places_in ps k m)) (let z : p + 0 ≡ p = omega arith in z) in
    omega arith
count_split ps x p (suc l) m zero e = absurd (let z : ⊥ = omega arith in z)
count_split ps x p (suc l) m (suc n) e =
    let a = count_split ps x (suc p) l m n (omega arith) in
    let b = ap (λ (k : ℕ). count x (places_in ps k m)) (let z : suc p + l ≡ p + suc l = omega arith in z) in
    omega arith

count_cons : (ps : List LinkedPlace) (x p l : ℕ) → count x (places_in ps p (suc l)) ≡ hit x (decode (entry_at ps p)) + count x (places_in ps (suc p) l)
unfolding places_in
count_cons ps x p l = refl

-- From place `from` on, none of the k-mer before place q, which has it.
pub count_from : (ps : List LinkedPlace) (x from q n : ℕ) → from ≤ q → q < n → ((j : ℕ) → from ≤ j → j < q → entry_at ps j % 2 ≡ 0 → entry_at ps j / 2 ≡ x → ⊥)
    → entry_at ps q % 2 ≡ 0 → entry_at ps q / 2 ≡ x → count x (places_in ps from (n - from)) ≡ suc (count x (places_in ps (suc q) (n - suc q)))
count_from ps x from q n h k none even e =
    let a = count_split ps x from (q - from) (n - q) (n - from) (omega arith) in
    let b = count_none ps x from (q - from) (λ i c d. none i c (omega arith)) in
    let c = ap (λ (k : ℕ). count x (places_in ps k (n - q))) (let z : from + (q - from) ≡ q = omega arith in z) in
    let d = ap (λ (k : ℕ). count x (places_in ps q k)) (let z : n - q ≡ suc (n - suc q) = omega arith in z) in
    let f = count_cons ps x q (n - suc q) in
    let g : hit x (decode (entry_at ps q)) ≡ 1 = ap (hit x) (decode_even (entry_at ps q) even ∙ ap plain e) ∙ hit_self x in
    omega arith

pub count_empty : (ps : List LinkedPlace) (x from n : ℕ) → ((j : ℕ) → from ≤ j → j < n → entry_at ps j % 2 ≡ 0 → entry_at ps j / 2 ≡ x → ⊥) → count x (places_in ps from (n - from)) ≡ 0
count_empty ps x from n none = count_none ps x from (n - from) (λ i a b. none i a (omega arith))

pub count_less : (ps : List LinkedPlace) (x at low n : ℕ) → at ≤ low → count x (places_in ps low (n - low)) ≤ count x (places_in ps at (n - at))
count_less ps x at low n h =
    ⊎_elim
    (λ (k : low < n).
    let a = count_split ps x at (low - at) (n - low) (n - at) (omega arith) in
    let b = ap (λ (k : ℕ). count x (places_in ps k (n - low))) (let z : at + (low - at) ≡ low = omega arith in z) in
    omega arith)
    (λ (k : n ≤ low). omega (arith, count_le x (places_in ps low (n - low)), in_length ps low (n - low)))
    (lt_or_le low n)
