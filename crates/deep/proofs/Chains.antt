-- The chains of places, and how the counts of a k-mer's places rise by one walk along its chain: from the newest place back, each of its places is met, since none lies between two that are met one after the other (`walks_on`),
-- and where as many were met as the window has, there are no more (`walked`).
use Rattle.std.proofs.Common.{◌≡◌, refl, sym, ap, ap₂, ◌∙◌, subst, ⊎_elim, ◌⊎◌, inl, inr, ℕ, zero, suc, ◌+◌, ◌/◌, ◌%◌, ◌≤◌, ◌<◌, eq-or-lt_of_le, arith, Bool, true, false, cond, List, [], ◌∷◌, length, get_or, set, take, drop, eqb, get_or-set_same, get_or-set_other}
use borrow.Author.Tests.{eqb-true, eqb-false}
use Rattle.letters.specs.Place.{Place, ambiguous, plain}
use Rattle.letters.specs.Terms.Entry.{decode}
use Rattle.letters.proofs.Entries.{decode_plain, plain_even}
use Rattle.scans.specs.Counts.{hit, count}
use Rattle.scans.proofs.Counting.{hit_self, hit_other, count_le}
use Rattle.deep.specs.declared.Cell.{Cell}
use Rattle.deep.specs.Terms.Blocks.{no_cell}
use Rattle.deep.specs.Terms.Cells.{place, chain, last_of, Linked}
use Rattle.deep.proofs.Sums.{three}

-- ---- The last place of a chain.
pub last_in : (q : List Place) (h j r : ℕ) → last_of q h j ≡ suc r → (r < j) × (chain (place q r) ≡ h)
unfolding last_of
last_in q h zero r e = absurd (let z : ⊥ = omega arith in z)
last_in q h (suc j) r e = go (eqb (chain (place q j)) h) refl e (last_in q h j r)
  where
    go : (b : Bool) → eqb (chain (place q j)) h ≡ b → cond b (suc j) (last_of q h j) ≡ suc r → (last_of q h j ≡ suc r → (r < j) × (chain (place q r) ≡ h)) → (r < suc j) × (chain (place q r) ≡ h)
    go true t e f = let z : j ≡ r = omega arith in (omega arith, subst (λ (i : ℕ). chain (place q i) ≡ h) z (eqb-true (chain (place q j)) h t))
    go false t e f = let k = f e in (omega (arith, k.0), k.1)

pub last_most : (q : List Place) (h j p : ℕ) → p < j → chain (place q p) ≡ h → suc p ≤ last_of q h j
unfolding last_of
last_most q h zero p l e = absurd (let z : ⊥ = omega arith in z)
last_most q h (suc j) p l e = go (eqb (chain (place q j)) h) refl (λ (k : p < j). last_most q h j p k e)
  where
    go : (b : Bool) → eqb (chain (place q j)) h ≡ b → (p < j → suc p ≤ last_of q h j) → suc p ≤ cond b (suc j) (last_of q h j)
    go true t f = omega arith
    go false t f =
        ⊎_elim (λ (z : p ≡ j). absurd (eqb-false (chain (place q j)) h t (subst (λ (i : ℕ). chain (place q i) ≡ h) z e)))
        (λ (k : p < j). f k) (eq-or-lt_of_le (let z : p ≤ j = omega arith in z))

pub last_same : (q r : List Place) (h j : ℕ) → ((p : ℕ) → p < j → place q p ≡ place r p) → last_of q h j ≡ last_of r h j
unfolding last_of
last_same q r h zero f = refl
last_same q r h (suc j) f = ap₂ (λ (e : Place) (n : ℕ). cond (eqb (chain e) h) (suc j) n) (f j (omega arith)) (last_same q r h j (λ p l. f p (omega arith)))

-- ---- Counts from a place on.
pub count_from : (x : ℕ) (q : List Place) (p : ℕ) → count x (drop p q) ≡ hit x (place q p) + count x (drop (suc p) q)
count_from x [] zero = refl
count_from x [] (suc p) = refl
count_from x (e ∷ q) zero = refl
count_from x (e ∷ q) (suc p) = count_from x q p

pub count_skip : (x : ℕ) (q : List Place) (a d : ℕ) → ((p : ℕ) → a ≤ p → p < a + d → hit x (place q p) ≡ 0) → count x (drop a q) ≡ count x (drop (a + d) q)
count_skip x q a zero f = let z : a ≡ a + 0 = omega arith in ap (λ (i : ℕ). count x (drop i q)) z
count_skip x q a (suc d) f =
    let z : suc a + d ≡ a + suc d = omega arith in
    omega (arith, count_from x q a, f a (omega arith) (omega arith), count_skip x q (suc a) d (λ p l k. f p (omega arith) (omega arith)), ap (λ (i : ℕ). count x (drop i q)) z)

pub count_past : (x : ℕ) (q : List Place) (p : ℕ) → length q ≤ p → count x (drop p q) ≡ 0
count_past x [] zero h = refl
count_past x [] (suc p) h = refl
count_past x (e ∷ q) zero h = absurd (let z : ⊥ = omega arith in z)
count_past x (e ∷ q) (suc p) h = count_past x q p (omega arith)

-- With the newest place.
pub count_newest : (x : ℕ) (q : List Place) (m j : ℕ) → length q ≡ suc m → j ≤ m → count x (drop j q) ≡ count x (drop j (take m q)) + hit x (place q m)
count_newest x [] m j l h = absurd (let z : ⊥ = omega arith in z)
count_newest x (e ∷ q) zero zero l h = omega (arith, count_le x q)
count_newest x (e ∷ q) zero (suc j) l h = absurd (let z : ⊥ = omega arith in z)
count_newest x (e ∷ q) (suc m) zero l h = omega (arith, count_newest x q m zero (omega arith) (omega arith))
count_newest x (e ∷ q) (suc m) (suc j) l h = count_newest x q m j (omega arith) (omega arith)

pub hit_swap : (x y : ℕ) → hit x (plain y) ≡ hit y (plain x)
hit_swap x y = go (eqb x y) refl
  where
    go : (b : Bool) → eqb x y ≡ b → hit x (plain y) ≡ hit y (plain x)
    go true t = let z : x ≡ y = eqb-true x y t in ap (λ (i : ℕ). hit i (plain y)) z ∙ hit_self y ∙ sym (ap (λ (i : ℕ). hit y (plain i)) z ∙ hit_self y)
    go false t = let f = eqb-false x y t in hit_other x y f ∙ sym (hit_other y x (λ z. f (sym z)))

pub hit_chain : (x : ℕ) (e : Place) → (chain e ≡ x % 1024 → ⊥) → hit x e ≡ 0
hit_chain x ambiguous f = refl
hit_chain x (plain y) f = hit_other x y (λ z. f (ap (λ (i : ℕ). i % 1024) (sym z)))

-- ---- The entries of a k-mer's places.
abbrev kmer_or : Place → ℕ
kmer_or ambiguous = 0
kmer_or (plain x) = x

pub hit_entry : (x e c : ℕ) → decode e ≡ plain x → c ≡ e → hit x (decode c) ≡ 1
hit_entry x e c h z = ap (λ (i : ℕ). hit x (decode i)) z ∙ ap (hit x) h ∙ hit_self x

pub hit_none : (x e c : ℕ) → decode e ≡ plain x → (c ≡ e → ⊥) → hit x (decode c) ≡ 0
hit_none x e c h n = go (decode c) refl
  where
    half : (i y : ℕ) → decode i ≡ plain y → (i % 2 ≡ 0) × (i / 2 ≡ y)
    half i y d = let ev = plain_even i y d in (ev, ap kmer_or (sym (decode_plain i ev) ∙ d))

    go : (p : Place) → decode c ≡ p → hit x p ≡ 0
    go ambiguous d = refl
    go (plain y) d =
        let a = half c y d in
        let b = half e x h in
        hit_other x y (λ z. n (omega (arith, a.0, a.1, b.0, b.1)))

-- ---- Cells.
pub slot_apart : (lo j r : ℕ) → (j ≡ r → ⊥) → j < 8192 → r < 8192 → (lo + j) % 8192 ≡ (lo + r) % 8192 → ⊥
slot_apart lo j r n a b e = ⊎_elim (λ (z : j ≡ r). n z) (λ (h : (j < r) ⊎ (r < j)). ⊎_elim (λ (l : j < r). let z : ⊥ = omega arith in z) (λ (l : r < j). let z : ⊥ = omega arith in z) h) (three j r)

-- A cell is written that keeps its entry and its link.
module _ (cells : List Cell) (s n : ℕ) (inside : s < length cells) where
  abbrev recounted : List Cell
  recounted = set cells s (record { entry = (get_or cells s no_cell).entry; count = n; link = (get_or cells s no_cell).link })

  recount_same : (p : ℕ) → ((get_or recounted p no_cell).entry ≡ (get_or cells p no_cell).entry) × ((get_or recounted p no_cell).link ≡ (get_or cells p no_cell).link)
  recount_same p = go (three p s)
    where
      go : (p ≡ s) ⊎ ((p < s) ⊎ (s < p)) → ((get_or recounted p no_cell).entry ≡ (get_or cells p no_cell).entry) × ((get_or recounted p no_cell).link ≡ (get_or cells p no_cell).link)
      go (inl z) = let is = ap (λ (i : ℕ). get_or recounted i no_cell) z ∙ get_or-set_same cells s (record { entry = (get_or cells s no_cell).entry; count = n; link = (get_or cells s no_cell).link }) no_cell inside in
          (ap (λ (c : Cell). c.entry) is ∙ ap (λ (i : ℕ). (get_or cells i no_cell).entry) (sym z), ap (λ (c : Cell). c.link) is ∙ ap (λ (i : ℕ). (get_or cells i no_cell).link) (sym z))
      go (inr h) = let is = get_or-set_other cells s p (record { entry = (get_or cells s no_cell).entry; count = n; link = (get_or cells s no_cell).link }) no_cell (λ (z : p ≡ s). ⊎_elim (λ (l : p < s). let b : ⊥ = omega arith in b) (λ (l : s < p). let b : ⊥ = omega arith in b) h) in
          (ap (λ (c : Cell). c.entry) is, ap (λ (c : Cell). c.link) is)

  pub linked_recount : (lo : ℕ) (q : List Place) (heads : List ℕ) → Linked lo q cells heads → Linked lo q recounted heads
  linked_recount lo q heads L =
      record {
        heads_long = L.heads_long;
        entry = λ j l. ap decode (recount_same ((lo + j) % 8192)).0 ∙ L.entry j l;
        link = λ h j r k l e f. (recount_same ((lo + j) % 8192)).1 ∙ L.link h j r k l e f;
        head = L.head;
      }
