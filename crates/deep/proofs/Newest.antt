-- The newest place gets its cell: the others' stay, and it is the first of its chain (`linked_plain`, `linked_none`). Where it has no k-mer, no order changes (`order_none`).
use Rattle.std.proofs.Common.{◌≡◌, refl, sym, ap, ◌∙◌, ⊎_elim, ◌⊎◌, inl, inr, ℕ, suc, ◌+◌, ◌%◌, ◌≤◌, ◌<◌, eq-or-lt_of_le, arith, List, [], length, get_or, get_or-take, set, take, drop, length-set, length-take-le, get_or-set_same, get_or-set_other, eq-eqb, ne_eqb}
use Rattle.letters.specs.Place.{Place, ambiguous, plain}
use Rattle.letters.specs.Terms.Entry.{decode}
use Rattle.scans.specs.Counts.{hit, count}
use Rattle.deep.specs.declared.Cell.{Cell}
use Rattle.deep.specs.Scores.{order}
use Rattle.deep.specs.Terms.Blocks.{no_cell}
use Rattle.deep.specs.Terms.Cells.{place, cell, order_at, chain, last_of, Linked, Ordered}
use Rattle.deep.proofs.Sums.{three}
use Rattle.deep.proofs.Chains.{last_same, count_newest, slot_apart}

last_next : (q : List Place) (h m : ℕ) → chain (place q m) ≡ h → last_of q h (suc m) ≡ suc m
unfolding last_of
last_next q h m e = rw (eq-eqb (chain (place q m)) h e)

last_other : (q : List Place) (h m : ℕ) → (chain (place q m) ≡ h → ⊥) → last_of q h (suc m) ≡ last_of q h m
unfolding last_of
last_other q h m n = rw (ne_eqb (chain (place q m)) h n)

module _ (lo : ℕ) (q : List Place) (m : ℕ) (long : length q ≡ suc m) (few : suc m ≤ 8064) where
  few_old : length (take m q) ≡ m
  few_old = length-take-le m q (omega arith)

  -- Where the newest place has no k-mer, no order changes.
  pub order_none : (cells : List Cell) → place q m ≡ ambiguous → Ordered lo (take m q) 0 m cells → (cell cells (lo + m)).count ≡ order [] (place q m) → Ordered lo q 0 (suc m) cells
  order_none cells n o own =
      record { count = λ j _ l. ⊎_elim (λ (e : j ≡ m). last j e) (λ (k : j < m). o.count j (omega arith) k ∙ sym (kept j k)) (eq-or-lt_of_le (let z : j ≤ m = omega arith in z)) }
    where
      step : (j : ℕ) → j < m → (e : Place) → order (drop (suc j) q) e ≡ order (drop (suc j) (take m q)) e
      step j h ambiguous = refl
      step j h (plain y) = ap suc (let z : count y (drop (suc j) q) ≡ count y (drop (suc j) (take m q)) = omega (arith, count_newest y q m (suc j) long (omega arith), ap (hit y) n) in z)

      kept : (j : ℕ) → j < m → order_at q j ≡ order_at (take m q) j
      kept j h = step j h (place q j) ∙ ap (order (drop (suc j) (take m q))) (sym (get_or-take m q j ambiguous h))

      last : (j : ℕ) → j ≡ m → (cell cells (lo + j)).count ≡ order_at q j
      last j e =
          ap (λ (i : ℕ). (cell cells (lo + i)).count) e ∙ own ∙ ap (order []) n
          ∙ sym (ap (order (drop (suc j) q)) (ap (place q) e ∙ n))

  module _ (cells : List Cell) (heads : List ℕ) (cells_long : length cells ≡ 8192) (C : Cell) where
    abbrev s : ℕ
    s = (lo + m) % 8192

    abbrev cells' : List Cell
    cells' = set cells s C

    kept : (j : ℕ) → j < m → cell cells' (lo + j) ≡ cell cells (lo + j)
    kept j h = get_or-set_other cells s ((lo + j) % 8192) C no_cell (λ z. slot_apart lo j m (λ e. let b : ⊥ = omega arith in b) (omega arith) (omega arith) z)

    own : cell cells' (lo + m) ≡ C
    own = get_or-set_same cells s C no_cell (omega arith)

    module _ (L : Linked lo (take m q) cells heads) (is : decode C.entry ≡ place q m) where
      place_old : (j : ℕ) → j < m → place (take m q) j ≡ place q j
      place_old j h = get_or-take m q j ambiguous h

      last_old : (h j : ℕ) → j ≤ m → last_of (take m q) h j ≡ last_of q h j
      last_old h j l = last_same (take m q) q h j (λ p k. place_old p (omega arith))

      entry_all : (j : ℕ) → j < length q → decode (cell cells' (lo + j)).entry ≡ place q j
      entry_all j l =
          ⊎_elim (λ (e : j ≡ m). ap (λ (i : ℕ). decode (cell cells' (lo + i)).entry) e ∙ ap (λ (c : Cell). decode c.entry) own ∙ is ∙ ap (place q) (sym e))
          (λ (k : j < m). ap (λ (c : Cell). decode c.entry) (kept j k) ∙ L.entry j (omega (arith, few_old)) ∙ place_old j k)
          (eq-or-lt_of_le (let z : j ≤ m = omega arith in z))

      link_old : (h j r : ℕ) → h < 1024 → j < m → chain (place q j) ≡ h → last_of q h j ≡ suc r → (cell cells' (lo + j)).link ≡ (lo + r) % 8192
      link_old h j r k l f e = ap (λ (c : Cell). c.link) (kept j l) ∙ L.link h j r k (omega (arith, few_old)) (ap chain (place_old j l) ∙ f) (last_old h j (omega arith) ∙ e)

      head_old : (h r : ℕ) → h < 1024 → last_of q h m ≡ suc r → get_or heads h 0 ≡ (lo + r) % 8192
      head_old h r k e = L.head h r k (ap (last_of (take m q) h) few_old ∙ last_old h m (omega arith) ∙ e)

      pub linked_none : place q m ≡ ambiguous → Linked lo q cells' heads
      linked_none n =
          record {
            heads_long = L.heads_long;
            entry = entry_all;
            link = λ h j r k l f e.
                ⊎_elim (λ (z : j ≡ m). absurd (let g : 1024 ≡ h = sym (ap chain (ap (place q) z ∙ n)) ∙ f in let b : ⊥ = omega arith in b))
                (λ (z : j < m). link_old h j r k z f e) (eq-or-lt_of_le (let z : j ≤ m = omega arith in z));
            head = λ h r k e.
                let other : last_of q h (suc m) ≡ last_of q h m = last_other q h m (λ f. let g : 1024 ≡ h = sym (ap chain n) ∙ f in let b : ⊥ = omega arith in b) in
                head_old h r k (sym other ∙ ap (last_of q h) (sym long) ∙ e);
          }

      module _ (x : ℕ) (p : place q m ≡ plain x) (first : C.link ≡ get_or heads (x % 1024) 0) where
        abbrev g : ℕ
        g = x % 1024

        link_new : (h j r : ℕ) → h < 1024 → j ≡ m → chain (place q j) ≡ h → last_of q h j ≡ suc r → (cell cells' (lo + j)).link ≡ (lo + r) % 8192
        link_new h j r k z f e =
            let same : g ≡ h = sym (ap chain (ap (place q) z ∙ p)) ∙ f in
            ap (λ (i : ℕ). (cell cells' (lo + i)).link) z ∙ ap (λ (c : Cell). c.link) own ∙ first ∙ ap (λ (i : ℕ). get_or heads i 0) same
            ∙ head_old h r k (ap (last_of q h) (sym z) ∙ e)

        head_new : (h r : ℕ) → h < 1024 → last_of q h (suc m) ≡ suc r → (g ≡ h) ⊎ ((g < h) ⊎ (h < g)) → get_or (set heads g s) h 0 ≡ (lo + r) % 8192
        head_new h r k e (inl z) =
            let at : m ≡ r = (let y : last_of q h (suc m) ≡ suc m = last_next q h m (ap chain p ∙ z) in omega arith) in
            ap (λ (i : ℕ). get_or (set heads i s) h 0) z ∙ get_or-set_same heads h s 0 (omega (arith, L.heads_long)) ∙ ap (λ (i : ℕ). (lo + i) % 8192) at
        head_new h r k e (inr z) =
            let apart : g ≡ h → ⊥ = λ (y : g ≡ h). ⊎_elim (λ (l : g < h). let b : ⊥ = omega arith in b) (λ (l : h < g). let b : ⊥ = omega arith in b) z in
            get_or-set_other heads g h s 0 (λ y. apart (sym y)) ∙ head_old h r k (sym (last_other q h m (λ f. apart (sym (ap chain p) ∙ f))) ∙ e)

        pub linked_plain : Linked lo q cells' (set heads g s)
        linked_plain =
            record {
              heads_long = length-set heads g s ∙ L.heads_long;
              entry = entry_all;
              link = λ h j r k l f e.
                  ⊎_elim (λ (z : j ≡ m). link_new h j r k z f e) (λ (z : j < m). link_old h j r k z f e) (eq-or-lt_of_le (let z : j ≤ m = omega arith in z));
              head = λ h r k e. head_new h r k (ap (last_of q h) (sym long) ∙ e) (three g h);
            }
