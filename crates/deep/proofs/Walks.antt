-- How the counts of a k-mer's places rise by one walk along its chain: from the newest place back each of its places is met, since none lies between two that are met one after the other (`walks_on`),
-- and where as many were met as the window has, there are no more (`walked`).
use Rattle.std.proofs.Common.{◌≡◌, refl, sym, ap, ◌∙◌, subst, ⊎_elim, ◌⊎◌, inl, inr, ℕ, zero, suc, ◌+◌, ◌-◌, ◌%◌, ◌≤◌, ◌<◌, eq-zero-or-pos, arith, List, length, length-drop, get_or, get_or-take, set, take, drop, length-set, get_or-set_same, get_or-set_other}
use Rattle.letters.specs.Place.{Place, ambiguous, plain}
use Rattle.letters.specs.Terms.Entry.{decode}
use Rattle.scans.specs.Counts.{hit, count}
use Rattle.scans.proofs.Counting.{hit_self, hit_other, count_le}
use Rattle.deep.specs.declared.Cell.{Cell}
use Rattle.deep.specs.declared.cells.Met.{Met}
use Rattle.deep.specs.Scores.{order}
use Rattle.deep.specs.Terms.Blocks.{no_cell}
use Rattle.deep.specs.Terms.Cells.{place, cell, order_at, chain, last_of, Linked, Ordered, Meets}
use Rattle.deep.proofs.Sums.{three}
use Rattle.deep.proofs.Chains.{last_in, last_most, count_from, count_skip, count_past, count_newest, hit_swap, hit_chain, hit_entry, hit_none, slot_apart, linked_recount}

-- Of the places q the newest, place m, has the k-mer x. Its t places from place `at` on were met, the next of its chain stands in cell s.
pub record Walks (lo : ℕ) (q : List Place) (m x : ℕ) (heads : List ℕ) (cells : List Cell) (t s turn : ℕ) : Type 0 where
  pub at : ℕ
  pub inside : at ≤ m
  pub turns : at + turn ≤ suc m
  pub met : t ≡ count x (drop at q)
  pub older : Ordered lo (take m q) 0 at cells
  pub newer : Ordered lo q at (suc m) cells
  pub next : (r : ℕ) → last_of q (x % 1024) at ≡ suc r → s ≡ (lo + r) % 8192
  pub cells_long : length cells ≡ 8192
  pub linked : Linked lo q cells heads

module _ (lo : ℕ) (q : List Place) (m x : ℕ) (long : length q ≡ suc m) (few : suc m ≤ 8064) (newest : place q m ≡ plain x) where
  -- ---- Orders before and after.
  order_kept : (j : ℕ) → j < m → hit x (place q j) ≡ 0 → order_at q j ≡ order_at (take m q) j
  order_kept j h none = step (place q j) none ∙ ap (order (drop (suc j) (take m q))) (sym (get_or-take m q j ambiguous h))
    where
      step : (e : Place) → hit x e ≡ 0 → order (drop (suc j) q) e ≡ order (drop (suc j) (take m q)) e
      step ambiguous n = refl
      step (plain y) n = ap suc (let z : count y (drop (suc j) q) ≡ count y (drop (suc j) (take m q)) = omega (arith, count_newest y q m (suc j) long (omega arith), ap (hit y) newest, hit_swap y x, n) in z)

  order_hit : (r : ℕ) → hit x (place q r) ≡ 1 → order_at q r ≡ suc (count x (drop (suc r) q))
  order_hit r = step (place q r)
    where
      step : (e : Place) → hit x e ≡ 1 → order (drop (suc r) q) e ≡ suc (count x (drop (suc r) q))
      step ambiguous h = absurd (let z : ⊥ = omega arith in z)
      step (plain y) h =
          ⊎_elim (λ (z : x ≡ y). ap (λ (i : ℕ). suc (count i (drop (suc r) q))) (sym z))
          (λ (k : (x < y) ⊎ (y < x)). absurd (let z : ⊥ = omega (arith, h, hit_other x y (λ (e : x ≡ y). ⊎_elim (λ (l : x < y). let b : ⊥ = omega arith in b) (λ (l : y < x). let b : ⊥ = omega arith in b) k)) in z))
          (three x y)

  module _ (heads : List ℕ) (cells : List Cell) (t s turn : ℕ) (W : Walks lo q m x heads cells t s turn) where
    abbrev h : ℕ
    h = x % 1024

    all_met : last_of q h W.at ≡ 0 → t ≡ count x q
    all_met z =
        let same : 0 + W.at ≡ W.at = omega arith in
        W.met ∙ ap (λ (i : ℕ). count x (drop i q)) (sym same)
        ∙ sym (count_skip x q 0 W.at (λ p _ k. hit_chain x (place q p) (λ c. let l = last_most q h W.at p (let k' : p < W.at = omega arith in k') c in let b : ⊥ = omega arith in b)))

    -- No place before is one of the k-mer's.
    pub walked : (t ≡ count x q) ⊎ (suc m ≤ turn) → Ordered lo q 0 (suc m) cells
    walked done = record { count = λ j _ l. by j l (three j W.at) }
      where
        none_before : (j : ℕ) → j < W.at → (t ≡ count x q) ⊎ (suc m ≤ turn) → hit x (place q j) ≡ 0
        none_before j l (inr e) = let T = W.turns in absurd (let b : ⊥ = omega arith in b)
        none_before j l (inl e) = hit_least j W.at l (let z : count x (drop 0 q) ≡ count x (drop W.at q) = sym e ∙ W.met in z)
          where
            between : (a d : ℕ) → count x (drop (a + d) q) ≤ count x (drop a q)
            between a zero = let z : a + 0 ≡ a = omega arith in omega (arith, ap (λ (i : ℕ). count x (drop i q)) z)
            between a (suc d) = let z : suc a + d ≡ a + suc d = omega arith in omega (arith, between (suc a) d, count_from x q a, ap (λ (i : ℕ). count x (drop i q)) z)

            hit_least : (j b : ℕ) → j < b → count x (drop 0 q) ≡ count x (drop b q) → hit x (place q j) ≡ 0
            hit_least j b l e =
                let z : suc j + (b - suc j) ≡ b = omega arith in
                let y : 0 + j ≡ j = omega arith in
                omega (arith, between 0 j, ap (λ (i : ℕ). count x (drop i q)) y, e, count_from x q j, between (suc j) (b - suc j), ap (λ (i : ℕ). count x (drop i q)) z)

        by : (j : ℕ) → j < suc m → (j ≡ W.at) ⊎ ((j < W.at) ⊎ (W.at < j)) → (cell cells (lo + j)).count ≡ order_at q j
        by j l (inl e) = W.newer.count j (omega arith) l
        by j l (inr (inr k)) = W.newer.count j (omega arith) l
        by j l (inr (inl k)) = let i = W.inside in W.older.count j (omega arith) k ∙ sym (order_kept j (omega arith) (none_before j k done))

    module _ (less : t ≡ count x q → ⊥) where
      abbrev here : ℕ
      here = last_of q h W.at - 1

      here_is : last_of q h W.at ≡ suc here
      here_is = ⊎_elim (λ (z : last_of q h W.at ≡ 0). absurd (less (all_met z))) (λ (l : 0 < last_of q h W.at). omega arith) (eq-zero-or-pos (last_of q h W.at))

      here_in : (here < W.at) × (chain (place q here) ≡ h)
      here_in = last_in q h W.at here here_is

      slot_is : s ≡ (lo + here) % 8192
      slot_is = W.next here here_is

      pub few_met : t < 8064
      few_met = let i = here_in.0 in omega (arith, W.met, count_le x (drop W.at q), length-drop W.at q)

      pub slot_in : s < 8192
      slot_in = omega (arith, slot_is)

      between : (p : ℕ) → here < p → p < W.at → hit x (place q p) ≡ 0
      between p k l = hit_chain x (place q p) (λ c. let m = last_most q h W.at p l c in let b : ⊥ = omega (arith, here_is) in b)

      count_here : count x (drop here q) ≡ hit x (place q here) + t
      count_here =
          let i = here_in.0 in
          let z : suc here + (W.at - suc here) ≡ W.at = omega arith in
          omega (arith, count_from x q here, count_skip x q (suc here) (W.at - suc here) (λ p k l. between p (omega arith) (omega arith)), ap (λ (i : ℕ). count x (drop i q)) z, W.met)

      entry_here : decode (get_or cells s no_cell).entry ≡ place q here
      entry_here =
          let i = here_in.0 in
          let j = W.inside in
          ap (λ (k : ℕ). decode (get_or cells k no_cell).entry) slot_is ∙ W.linked.entry here (omega arith)

      -- The next turn, if the cells' counts are those wanted.
      on : (cells' : List Cell) (t' s' : ℕ) → t' ≡ count x (drop here q) → s' ≡ (get_or cells s no_cell).link → length cells' ≡ 8192 → Linked lo q cells' heads
          → ((j : ℕ) → (j ≡ here → ⊥) → j ≤ m → (cell cells' (lo + j)).count ≡ (cell cells (lo + j)).count) → (cell cells' (lo + here)).count ≡ order_at q here
          → Walks lo q m x heads cells' t' s' (turn + 1)
      on cells' t' s' tis sis len L same own =
          let i = here_in.0 in
          let k = W.inside in
          let T = W.turns in
          record {
            at = here;
            inside = omega arith;
            turns = omega arith;
            met = tis;
            older = record { count = λ j _ l. same j (λ (z : j ≡ here). let b : ⊥ = omega arith in b) (omega arith) ∙ W.older.count j (omega arith) (omega arith) };
            newer = record { count = λ j l u. by j l u (three j here) (three j W.at) };
            next = λ r e. sis ∙ ap (λ (i : ℕ). (get_or cells i no_cell).link) slot_is ∙ W.linked.link h here r (omega arith) (omega arith) here_in.1 e;
            cells_long = len;
            linked = L;
          }
        where
          by : (j : ℕ) → here ≤ j → j < suc m → (j ≡ here) ⊎ ((j < here) ⊎ (here < j)) → (j ≡ W.at) ⊎ ((j < W.at) ⊎ (W.at < j)) → (cell cells' (lo + j)).count ≡ order_at q j
          by j l u (inl e) o = ap (λ (i : ℕ). (cell cells' (lo + i)).count) e ∙ own ∙ ap (order_at q) (sym e)
          by j l u (inr (inl k)) o = absurd (let b : ⊥ = omega arith in b)
          by j l u (inr (inr k)) (inl e) = same j (λ (z : j ≡ here). let b : ⊥ = omega arith in b) (omega arith) ∙ W.newer.count j (omega arith) u
          by j l u (inr (inr k)) (inr (inr o)) = same j (λ (z : j ≡ here). let b : ⊥ = omega arith in b) (omega arith) ∙ W.newer.count j (omega arith) u
          by j l u (inr (inr k)) (inr (inl o)) =
              let i = W.inside in
              same j (λ (z : j ≡ here). let b : ⊥ = omega arith in b) (omega arith) ∙ W.older.count j (omega arith) o ∙ sym (order_kept j (omega arith) (between j k o))

      module _ (e : ℕ) (is : decode e ≡ plain x) (r : Met) (cells' : List Cell) (M : Meets e s t r cells cells') where
        pub walks_on : Walks lo q m x heads cells' r.times r.next (turn + 1)
        walks_on = go (three (get_or cells s no_cell).entry e)
          where
            not_it : ((get_or cells s no_cell).entry ≡ e → ⊥) → Walks lo q m x heads cells' r.times r.next (turn + 1)
            not_it n =
                let o = M.other n in
                let none : hit x (place q here) ≡ 0 = ap (hit x) (sym entry_here) ∙ hit_none x e (get_or cells s no_cell).entry is n in
                let i = here_in.0 in
                let k = W.inside in
                on cells' r.times r.next (omega (arith, o.0, count_here, none)) M.next (ap length o.1 ∙ W.cells_long) (subst (λ (c : List Cell). Linked lo q c heads) (sym o.1) W.linked)
                (λ j _ _. ap (λ (c : List Cell). (cell c (lo + j)).count) o.1)
                (ap (λ (c : List Cell). (cell c (lo + here)).count) o.1 ∙ W.older.count here (omega arith) i ∙ sym (order_kept here (omega arith) none))

            is_it : (get_or cells s no_cell).entry ≡ e → Walks lo q m x heads cells' r.times r.next (turn + 1)
            is_it z =
                let o = M.same z in
                let one : hit x (place q here) ≡ 1 = ap (hit x) (sym entry_here) ∙ hit_entry x e (get_or cells s no_cell).entry is z in
                let i = here_in.0 in
                let k = W.inside in
                let inside : s < length cells = omega (arith, W.cells_long, slot_in) in
                let C : Cell = record { entry = e; count = t + 1; link = (get_or cells s no_cell).link } in
                let at_slot : (cell cells' (lo + here)).count ≡ t + 1 =
                ap (λ (c : List Cell). (cell c (lo + here)).count) o.1 ∙ ap (λ (p : ℕ). (get_or (set cells s C) p no_cell).count) (sym slot_is) ∙ ap (λ (c : Cell). c.count) (get_or-set_same cells s C no_cell inside) in
                let L : Linked lo q (set cells s C) heads =
                subst (λ (y : ℕ). Linked lo q (set cells s (record { entry = y; count = t + 1; link = (get_or cells s no_cell).link })) heads) z (linked_recount cells s (t + 1) inside lo q heads W.linked) in
                on cells' r.times r.next (omega (arith, o.0, count_here, one)) M.next (ap length o.1 ∙ length-set cells s C ∙ W.cells_long) (subst (λ (c : List Cell). Linked lo q c heads) (sym o.1) L)
                (λ j n l. ap (λ (c : List Cell). (cell c (lo + j)).count) o.1
                ∙ ap (λ (c : Cell). c.count) (get_or-set_other cells s ((lo + j) % 8192) C no_cell (λ (y : (lo + j) % 8192 ≡ s). slot_apart lo j here n (omega arith) (omega arith) (y ∙ slot_is))))
                (at_slot ∙ omega (arith, order_hit here one, count_here, one, count_from x q here))

            go : ((get_or cells s no_cell).entry ≡ e) ⊎ (((get_or cells s no_cell).entry < e) ⊎ (e < (get_or cells s no_cell).entry)) → Walks lo q m x heads cells' r.times r.next (turn + 1)
            go (inl z) = is_it z
            go (inr n) = not_it (λ (y : (get_or cells s no_cell).entry ≡ e). ⊎_elim (λ (l : (get_or cells s no_cell).entry < e). let b : ⊥ = omega arith in b) (λ (l : e < (get_or cells s no_cell).entry). let b : ⊥ = omega arith in b) n)

  -- From the newest place.
  pub walks_start : (heads : List ℕ) (cells : List Cell) (s : ℕ) → length cells ≡ 8192 → Linked lo q cells heads → Ordered lo (take m q) 0 m cells → (cell cells (lo + m)).count ≡ 1
      → s ≡ (cell cells (lo + m)).link → Walks lo q m x heads cells 1 s 1
  walks_start heads cells s len L older one sis =
      let past = count_past x q (suc m) (omega arith) in
      let own : hit x (place q m) ≡ 1 = ap (hit x) newest ∙ hit_self x in
      record {
        at = m;
        inside = omega arith;
        turns = omega arith;
        met = omega (arith, count_from x q m, past, own);
        older = older;
        newer = record { count = λ j l u. let z : m ≡ j = omega arith in subst (λ (i : ℕ). (cell cells (lo + i)).count ≡ order_at q i) z (one ∙ omega (arith, order_hit m own, past)) };
        next = λ r e. sis ∙ L.link (x % 1024) m r (omega arith) (omega arith) (ap chain newest) e;
        cells_long = len;
        linked = L;
      }
