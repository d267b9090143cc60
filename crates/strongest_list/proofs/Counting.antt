-- A place joins those before it: what is written, and the orders of its k-mer that rise.
use Rattle.std.proofs.Common.{◌≡◌, ℕ, suc, ◌+◌, ◌-◌, ◌*◌, ◌/◌, ◌%◌, ◌<◌, ◌≤◌, List, [], length, get_or, set, refl, sym, ap, ◌∙◌, subst, arith, ⊎_elim, eq-or-lt_of_le, get_or-set_same, get_or-set_other}
use Rattle.intervals.proofs.Order.{lt_or_le}
use Rattle.letters.specs.Place.{plain}
use Rattle.letters.specs.Terms.Entry.{decode}
use Rattle.scans.specs.Counts.{count}
use Rattle.strongest.specs.Terms.Reading.{Narrow}
use Rattle.strongest_list.specs.declared.linked.LinkedPlace.{LinkedPlace}
use Rattle.strongest_list.specs.declared.blocks.Block.{Block}
use Rattle.strongest_list.specs.Terms.Blocks.{no_place, no_block, entry_at, older_at, order_at, value, added, raised, Blocked}
use Rattle.strongest_list.specs.Terms.Linked.{order, places_in, order_in, Older, Chained, Newest, Linked, Joins, Raised, Written}
use Rattle.strongest_list.proofs.Gains.{value_small, blocked_added, blocked_raised, block_has, block_small, blocked_from}
use Rattle.strongest_list.proofs.Linking.{decode_even, same_or, order_same, order_up, order_small, order_last, order_as, count_from, count_empty, count_less}

-- ---- Place n is written.
module _ (ps : List LinkedPlace) (n : ℕ) (v : LinkedPlace) (inside : n < length ps) where
  abbrev now : List LinkedPlace
  now = set ps n v

  at_n : get_or now n no_place ≡ v
  at_n = get_or-set_same ps n v no_place inside

  at_other : (p : ℕ) → (p ≡ n → ⊥) → get_or now p no_place ≡ get_or ps p no_place
  at_other p h = get_or-set_other ps n p v no_place h

  entry_kept : (p : ℕ) → (p ≡ n → ⊥) → entry_at now p ≡ entry_at ps p
  entry_kept p h = ap (λ (x : LinkedPlace). x.entry) (at_other p h)

  pub joins_set : Joins v.entry n ps now
  joins_set = record { new = ap (λ (x : LinkedPlace). x.entry) at_n; others = entry_kept }

  older_as : (i entry entry' o o' : ℕ) → i ≤ n → entry' ≡ entry → o' ≡ o → Older ps i entry o → Older now i entry' o'
  older_as i entry entry' o o' h e q O =
      record {
        below = omega (arith, O.below);
        same = λ k. entry_kept (o' - 1) (λ z. let b = O.below in let w : ⊥ = omega arith in w) ∙ ap (λ (x : ℕ). entry_at ps (x - 1)) q ∙ O.same (omega arith) ∙ sym e;
        last = λ j a b c. O.last j (omega arith) b (sym (entry_kept j (λ z. let w : ⊥ = omega arith in w)) ∙ c ∙ e);
      }

  chained_set : Chained ps n → (v.entry % 2 ≡ 0 → Older ps n v.entry v.older) → Chained now (suc n)
  chained_set C h =
      record {
        at = λ i a b.
            ⊎_elim
            (λ (e : i ≡ n).
            let x = ap (λ (k : ℕ). get_or now k no_place) e ∙ at_n in
            let f : entry_at now i ≡ v.entry = ap (λ (x : LinkedPlace). x.entry) x in
            let g : older_at now i ≡ v.older = ap (λ (x : LinkedPlace). x.older) x in
            subst (λ (k : ℕ). Older now k (entry_at now i) (older_at now i)) (sym e)
            (older_as n v.entry (entry_at now i) v.older (older_at now i) (omega arith) f g (h (ap (λ (k : ℕ). k % 2) (sym f) ∙ b))))
            (λ (l : suc i ≤ n).
            let x = at_other i (λ z. let w : ⊥ = omega arith in w) in
            let f = ap (λ (x : LinkedPlace). x.entry) x in
            let g = ap (λ (x : LinkedPlace). x.older) x in
            older_as i (entry_at ps i) (entry_at now i) (older_at ps i) (older_at now i) (omega arith) f g (C.at i l (ap (λ (k : ℕ). k % 2) (sym f) ∙ b)))
            (eq-or-lt_of_le (let z : i ≤ n = omega arith in z));
      }

  module _ (w : ℕ) (ln f : List ℕ) (t low J : ℕ) (nw : List ℕ) (bs : List Block) (L : Linked w ln t low n ps nw bs) (N : Narrow t ln f w) (some : 0 < w)
      (J_in : J < length bs) (J_low : 64 * J ≤ n) (J_high : n < 64 * J + 64) where
    few_set : v.order ≤ w → (p : ℕ) → p < suc n → order_at now p ≤ w
    few_set h p a =
        ⊎_elim
        (λ (e : p ≡ n). let x = ap (λ (x : LinkedPlace). x.order) (ap (λ (k : ℕ). get_or now k no_place) e ∙ at_n) in omega arith)
        (λ (l : suc p ≤ n). let x = ap (λ (x : LinkedPlace). x.order) (at_other p (λ z. let w : ⊥ = omega arith in w)) in omega (arith, L.few p l))
        (eq-or-lt_of_le (let z : p ≤ n = omega arith in z))

    -- It stands there, and is not yet counted.
    pub written_set : (gain : ℕ) → gain ≡ value ln v.order → v.order ≤ w → v.order ≡ order [] (decode v.entry) → (v.entry % 2 ≡ 0 → Older ps n v.entry v.older)
        → Written w ln t low n now (set bs J (added (get_or bs J no_block) gain t))
    written_set gain e few one older =
        let o_is : order_at now n ≡ v.order = ap (λ (x : LinkedPlace). x.order) at_n in
        let e_is : entry_at now n ≡ v.entry = ap (λ (x : LinkedPlace). x.entry) at_n in
        let g : gain ≡ value ln (order_at now n) = e ∙ ap (value ln) (sym o_is) in
        record {
          chained = chained_set L.chained older;
          orders = λ p a b.
              ap (λ (x : LinkedPlace). x.order) (at_other p (λ z. let w : ⊥ = omega arith in w))
              ∙ L.orders p a b
              ∙ sym (order_as ps now p n b (λ i c. entry_kept i (λ z. let w : ⊥ = omega arith in w)));
          one = o_is ∙ one ∙ ap (λ (x : ℕ). order [] (decode x)) (sym e_is);
          few = few_set few;
          blocked = subst (λ (x : ℕ). Blocked ln t low (suc n) (order_at now) (set bs J (added (get_or bs J no_block) x t))) (sym g)
              (blocked_added ln t low n J (order_at ps) (order_at now) bs L.blocked N.t_small (λ i a. value_small t ln f w (order_at now i) N (few_set few i (omega arith)))
              (λ i a. sym (ap (λ (x : LinkedPlace). x.order) (at_other i (λ z. let w : ⊥ = omega arith in w)))) J_in J_low J_high);
        }

    -- The newest of its k-mer.
    pub newest_set : (x : ℕ) → v.entry / 2 < length nw → x ≡ n + 1 → v.entry % 2 ≡ 0 → Newest now (suc n) (set nw (v.entry / 2) x)
    newest_set x long x_is even =
        let N = L.newest in
        record {
          above = λ j a b. by (λ (r : ℕ). j < r) j a b (λ e. omega arith) (λ c d. N.above j c d);
          below = λ j a b. by (λ (r : ℕ). r ≤ suc n) j a b (λ e. omega arith) (λ c d. let l = N.below j c d in omega arith);
          same = λ j a b.
              by (λ (r : ℕ). entry_at now (r - 1) ≡ entry_at now j) j a b
              (λ e. ap (entry_at now) (let z : x - 1 ≡ n = omega arith in z) ∙ ap (λ (y : LinkedPlace). y.entry) at_n ∙ sym e)
              (λ c d.
              let r : ℕ = get_or nw (entry_at ps j / 2) 0 in
              let l = N.below j c d in
              let m = N.above j c d in
              entry_kept (r - 1) (λ z. let w : ⊥ = omega arith in w) ∙ N.same j c d ∙ sym (entry_kept j (λ z. let w : ⊥ = omega arith in w)));
        }
      where
        nw' : List ℕ
        nw' = set nw (v.entry / 2) x

        -- Of its own k-mer, or of another.
        by : (Q : ℕ → Type 0) → (j : ℕ) → j < suc n → entry_at now j % 2 ≡ 0 → (entry_at now j ≡ v.entry → Q x) → ((c : j < n) → entry_at ps j % 2 ≡ 0 → Q (get_or nw (entry_at ps j / 2) 0))
            → Q (get_or nw' (entry_at now j / 2) 0)
        by Q j a b same other =
            ⊎_elim
            (λ (e : entry_at now j ≡ v.entry).
            subst Q (sym (ap (λ (k : ℕ). get_or nw' (k / 2) 0) e ∙ get_or-set_same nw (v.entry / 2) x 0 long)) (same e))
            (λ (ne : entry_at now j ≡ v.entry → ⊥).
            let j_not : j ≡ n → ⊥ = λ z. ne (ap (entry_at now) z ∙ ap (λ (y : LinkedPlace). y.entry) at_n) in
            let j_in : j < n = ⊎_elim (λ (z : j ≡ n). absurd (j_not z)) (λ (z : suc j ≤ n). z) (eq-or-lt_of_le (let z : j ≤ n = omega arith in z)) in
            let k : entry_at now j ≡ entry_at ps j = entry_kept j j_not in
            let half : entry_at now j / 2 ≡ v.entry / 2 → ⊥ = λ z. ne (let y : entry_at now j ≡ v.entry = omega arith in y) in
            subst Q (sym (get_or-set_other nw (v.entry / 2) (entry_at now j / 2) x 0 half ∙ ap (λ (k : ℕ). get_or nw (k / 2) 0) k))
            (other j_in (ap (λ (k : ℕ). k % 2) (sym k) ∙ b)))
            (same_or (entry_at now j) v.entry)

    pub newest_odd : (v.entry % 2 ≡ 0 → ⊥) → Newest now (suc n) nw
    newest_odd odd =
        let N = L.newest in
        record {
          above = λ j a b. subst (λ (k : ℕ). j < get_or nw (k / 2) 0) (sym (kept j a b)) (N.above j (old j a b) (ap (λ (k : ℕ). k % 2) (sym (kept j a b)) ∙ b));
          below = λ j a b. let l = subst (λ (k : ℕ). get_or nw (k / 2) 0 ≤ n) (sym (kept j a b)) (N.below j (old j a b) (ap (λ (k : ℕ). k % 2) (sym (kept j a b)) ∙ b)) in omega arith;
          same = λ j a b.
              let c = old j a b in
              let d = ap (λ (k : ℕ). k % 2) (sym (kept j a b)) ∙ b in
              let r : ℕ = get_or nw (entry_at ps j / 2) 0 in
              let l = N.below j c d in
              let m = N.above j c d in
              ap (λ (k : ℕ). entry_at now (get_or nw (k / 2) 0 - 1)) (kept j a b) ∙ entry_kept (r - 1) (λ z. let w : ⊥ = omega arith in w) ∙ N.same j c d ∙ sym (kept j a b);
        }
      where
        old : (j : ℕ) → j < suc n → entry_at now j % 2 ≡ 0 → j < n
        old j a b =
            ⊎_elim
            (λ (z : j ≡ n). absurd (odd (ap (λ (k : ℕ). k % 2) (sym (ap (entry_at now) z ∙ ap (λ (y : LinkedPlace). y.entry) at_n)) ∙ b)))
            (λ (z : suc j ≤ n). z)
            (eq-or-lt_of_le (let z : j ≤ n = omega arith in z))

        kept : (j : ℕ) → j < suc n → entry_at now j % 2 ≡ 0 → entry_at now j ≡ entry_at ps j
        kept j a b = let l = old j a b in entry_kept j (λ z. let w : ⊥ = omega arith in w)

-- An ambiguous place changes no order.
pub linked_odd : (w : ℕ) (ln : List ℕ) (t low n : ℕ) (ps : List LinkedPlace) (nw : List ℕ) (bs : List Block) → (entry_at ps n % 2 ≡ 0 → ⊥) → Written w ln t low n ps bs → Newest ps (suc n) nw
    → Linked w ln t low (suc n) ps nw bs
linked_odd w ln t low n ps nw bs odd W N =
    record {
      chained = W.chained;
      newest = N;
      orders = λ p a b.
          ⊎_elim
          (λ (e : p ≡ n). subst (λ (k : ℕ). order_at ps k ≡ order_in ps k (suc n)) (sym e) (W.one ∙ sym (order_last ps n)))
          (λ (l : suc p ≤ n). W.orders p a l ∙ sym (order_same ps p n l (λ z. absurd (odd z))))
          (eq-or-lt_of_le (let z : p ≤ n = omega arith in z));
      few = W.few;
      blocked = W.blocked;
    }

-- Where the walk stands: places at .. n - 1 are done, and place at - 1 is the next.
pub record Walk (w : ℕ) (ln : List ℕ) (t low n : ℕ) (ps now : List LinkedPlace) (bs : List Block) (at r : ℕ) : Type 0 where
  pub raised : Raised ps now n at r
  pub inside : at ≤ n
  pub next : 0 < at → entry_at ps (at - 1) ≡ entry_at ps n
  pub few : (p : ℕ) → p < suc n → order_at now p ≤ w
  pub most : r ≤ w
  pub blocked : Blocked ln t low (suc n) (order_at now) bs

-- ---- The chain of place n, whose entry is that of a plain place.
module _ (w : ℕ) (ln f : List ℕ) (t low n : ℕ) (ps : List LinkedPlace) (bs : List Block) (W : Written w ln t low n ps bs) (N : Narrow t ln f w) (even : entry_at ps n % 2 ≡ 0) (near : n + 1 ≤ low + w) where
  abbrev e : ℕ
  e = entry_at ps n

  older_n : Older ps n e (older_at ps n)
  older_n = W.chained.at n (omega arith) even

  even_as : (j : ℕ) → entry_at ps j ≡ e → entry_at ps j % 2 ≡ 0
  even_as j h = ap (λ (k : ℕ). k % 2) h ∙ even

  pub walk_start : (at : ℕ) → at ≡ older_at ps n → 0 < w → Walk w ln t low n ps ps bs at 1
  walk_start at h some =
      let O = older_n in
      let none : (j : ℕ) → at ≤ j → j < n → entry_at ps j ≡ e → ⊥ = λ j a b c. O.last j (omega arith) b c in
      record {
        raised = record {
          kept = record { entries = λ p. refl; olders = λ p. refl };
          done = λ p a b c. absurd (none p a b c);
          others = λ p a. refl;
          number = ap suc (sym (count_empty ps (e / 2) at n (λ j a b c d. none j a b (let z : entry_at ps j ≡ e = omega arith in z))));
        };
        inside = omega (arith, O.below);
        next = λ k. ap (λ (x : ℕ). entry_at ps (x - 1)) h ∙ O.same (omega arith);
        few = W.few;
        most = omega arith;
        blocked = W.blocked;
      }

  -- Place at - 1 rises.
  module _ (now : List LinkedPlace) (blocks : List Block) (at r : ℕ) (K : Walk w ln t low n ps now blocks at r) (go : low < at) (long : n < length now) (J : ℕ) (J_in : J < length blocks) (J_low : 64 * J ≤ at - 1) (J_high : at - 1 < 64 * J + 64) where
    abbrev q : ℕ
    q = at - 1

    q_in : q < n
    q_in = omega (arith, K.inside)

    q_entry : entry_at ps q ≡ e
    q_entry = K.next (omega arith)

    q_even : entry_at ps q % 2 ≡ 0
    q_even = even_as q q_entry

    q_order : order_at now q ≡ order_in ps q n
    q_order = K.raised.others q (λ a b c. let z : ⊥ = omega arith in z) ∙ W.orders q (omega arith) q_in

    pub q_small : order_at now q + 1 ≤ w
    q_small = let a = q_in in omega (arith, q_order, order_small ps q n a)

    O : Older ps q (entry_at ps q) (older_at ps q)
    O = W.chained.at q (let a = q_in in omega arith) q_even

    count_is : order_at now q ≡ suc (count (e / 2) (places_in ps (suc q) (n - suc q)))
    count_is = q_order ∙ ap (order (places_in ps (suc q) (n - suc q))) (decode_even (entry_at ps q) q_even ∙ ap (λ (x : ℕ). plain (x / 2)) q_entry)

    abbrev later : LinkedPlace → List LinkedPlace
    later v = set now q v

    pub walk_next : (v : LinkedPlace) (old : LinkedPlace) (at' r' : ℕ) (was is : ℕ) → old ≡ get_or now q no_place → v ≡ record { entry = old.entry; older = old.older; order = r' }
        → r' ≡ old.order + 1 → at' ≡ old.older → was ≡ value ln old.order → is ≡ value ln r' → Walk w ln t low n ps (later v) (set blocks J (raised (get_or blocks J no_block) was is)) at' r'
    walk_next v old at' r' was is old_is v_is r_is at_is was_is is_is =
        let o : old.order ≡ order_at now q = ap (λ (x : LinkedPlace). x.order) old_is in
        let here : get_or (later v) q no_place ≡ v = get_or-set_same now q v no_place (let a = q_in in omega arith) in
        let there : (p : ℕ) → (p ≡ q → ⊥) → get_or (later v) p no_place ≡ get_or now p no_place = λ p h. get_or-set_other now q p v no_place h in
        let v_entry : v.entry ≡ entry_at now q = ap (λ (x : LinkedPlace). x.entry) v_is ∙ ap (λ (x : LinkedPlace). x.entry) old_is in
        let v_older : v.older ≡ older_at now q = ap (λ (x : LinkedPlace). x.older) v_is ∙ ap (λ (x : LinkedPlace). x.older) old_is in
        let v_order : v.order ≡ r' = ap (λ (x : LinkedPlace). x.order) v_is in
        let here_order : order_at (later v) q ≡ r' = ap (λ (x : LinkedPlace). x.order) here ∙ v_order in
        let other_order : (p : ℕ) → (p ≡ q → ⊥) → order_at (later v) p ≡ order_at now p = λ p h. ap (λ (x : LinkedPlace). x.order) (there p h) in
        let at_q : at' ≡ older_at ps q = at_is ∙ ap (λ (x : LinkedPlace). x.older) old_is ∙ K.raised.kept.olders q in
        let below : at' ≤ q = omega (arith, O.below) in
        let few' : (p : ℕ) → p < suc n → order_at (later v) p ≤ w =
        λ p a. ⊎_elim (λ (z : p ≡ q). let b = ap (order_at (later v)) z in let d = q_small in omega arith) (λ (z : p ≡ q → ⊥). let b = other_order p z in omega (arith, K.few p a)) (same_or p q) in
        let none : (j : ℕ) → at' ≤ j → j < q → entry_at ps j ≡ e → ⊥ = λ j a b c. O.last j (omega arith) b (c ∙ sym q_entry) in
        record {
          raised = record {
            kept = record {
              entries = λ p. ⊎_elim (λ (z : p ≡ q). ap (entry_at (later v)) z ∙ ap (λ (x : LinkedPlace). x.entry) here ∙ v_entry ∙ K.raised.kept.entries q ∙ ap (entry_at ps) (sym z)) (λ (z : p ≡ q → ⊥). ap (λ (x : LinkedPlace). x.entry) (there p z) ∙ K.raised.kept.entries p) (same_or p q);
              olders = λ p. ⊎_elim (λ (z : p ≡ q). ap (older_at (later v)) z ∙ ap (λ (x : LinkedPlace). x.older) here ∙ v_older ∙ K.raised.kept.olders q ∙ ap (older_at ps) (sym z)) (λ (z : p ≡ q → ⊥). ap (λ (x : LinkedPlace). x.older) (there p z) ∙ K.raised.kept.olders p) (same_or p q);
            };
            done = λ p a b c.
                ⊎_elim
                (λ (z : p ≡ q).
                let x = K.raised.others q (λ a b c. let z : ⊥ = omega arith in z) in
                ap (order_at (later v)) z ∙ here_order ∙ r_is ∙ ap (λ (k : ℕ). k + 1) (o ∙ x ∙ ap (order_at ps) (sym z)))
                (λ (z : p ≡ q → ⊥).
                ⊎_elim
                (λ (l : p < q). absurd (none p a l c))
                (λ (l : q ≤ p). other_order p z ∙ K.raised.done p (let y : at ≤ p = by_ne p z l in y) b c)
                (lt_or_le p q))
                (same_or p q);
            others = λ p h.
                ⊎_elim
                (λ (z : p ≡ q). absurd (h (omega arith) (let a = q_in in omega arith) (ap (entry_at ps) z ∙ q_entry)))
                (λ (z : p ≡ q → ⊥). other_order p z ∙ K.raised.others p (λ a b c. h (omega arith) b c))
                (same_or p q);
            number = r_is ∙ ap (λ (k : ℕ). k + 1) (o ∙ count_is) ∙ add (count (e / 2) (places_in ps (suc q) (n - suc q)))
                ∙ ap suc (sym (count_from ps (e / 2) at' q n below q_in (λ j a b c d. none j a b (let z : entry_at ps j ≡ e = omega arith in z)) q_even (ap (λ (x : ℕ). x / 2) q_entry)));
          };
          inside = let a = q_in in omega arith;
          next = λ k. ap (λ (x : ℕ). entry_at ps (x - 1)) at_q ∙ O.same (omega arith) ∙ q_entry;
          few = few';
          most = let d = q_small in omega arith;
          blocked = subst (λ (x : ℕ). Blocked ln t low (suc n) (order_at (later v)) (set blocks J (raised (get_or blocks J no_block) x is))) (ap (value ln) (sym o) ∙ sym was_is)
              (subst (λ (x : ℕ). Blocked ln t low (suc n) (order_at (later v)) (set blocks J (raised (get_or blocks J no_block) (value ln (order_at now q)) x))) (ap (value ln) here_order ∙ sym is_is)
              (blocked_raised ln t low (suc n) q J (order_at now) (order_at (later v)) blocks K.blocked N.t_small (λ i a. value_small t ln f w (order_at (later v) i) N (few' i a))
              (λ i a. sym (other_order i a)) (let a = q_in in omega arith) J_in J_low J_high));
        }
      where
        by_ne : (p : ℕ) → (p ≡ q → ⊥) → q ≤ p → at ≤ p
        by_ne p h k = ⊎_elim (λ (z : q ≡ p). absurd (h (sym z))) (λ (z : suc q ≤ p). omega arith) (eq-or-lt_of_le k)

        add : (k : ℕ) → suc k + 1 ≡ suc (suc k)
        add k = omega arith

    pub walk_block : value ln (order_at now q) ≤ (get_or blocks J no_block).gain
    walk_block =
        let z = block_small ln t low (suc n) J (order_at now) blocks K.blocked (λ i a. value_small t ln f w (order_at now i) N (K.few i a)) J_in in
        let a = K.blocked.gain J J_in in
        omega (arith, a, Rattle.strongest_list.proofs.Gains.gains_has ln (order_at now) (64 * J) (Rattle.std.specs.Prelude.min 64 (suc n - 64 * J)) q J_low (let b = q_in in omega arith))

    pub walk_gain : (get_or blocks J no_block).gain ≤ 4398046511104
    walk_gain = block_small ln t low (suc n) J (order_at now) blocks K.blocked (λ i a. value_small t ln f w (order_at now i) N (K.few i a)) J_in

  -- The walk has come to place `low`.
  module _ (now : List LinkedPlace) (blocks : List Block) (at r : ℕ) (K : Walk w ln t low n ps now blocks at r) (stop : at ≤ low) where
    pub walk_linked : (nw : List ℕ) → Newest ps (suc n) nw → Linked w ln t low (suc n) now nw blocks
    walk_linked nw M =
        let E = K.raised.kept in
        record {
          chained = record {
            at = λ i a b.
                let C = W.chained.at i a (ap (λ (k : ℕ). k % 2) (sym (E.entries i)) ∙ b) in
                record {
                  below = omega (arith, C.below, E.olders i);
                  same = λ k. E.entries (older_at now i - 1) ∙ ap (λ (x : ℕ). entry_at ps (x - 1)) (E.olders i) ∙ C.same (omega (arith, E.olders i)) ∙ sym (E.entries i);
                  last = λ j x y z. C.last j (omega (arith, E.olders i)) y (sym (E.entries j) ∙ z ∙ E.entries i);
                };
          };
          newest = record {
            above = λ j a b. subst (λ (k : ℕ). j < get_or nw (k / 2) 0) (sym (E.entries j)) (M.above j a (ap (λ (k : ℕ). k % 2) (sym (E.entries j)) ∙ b));
            below = λ j a b. subst (λ (k : ℕ). get_or nw (k / 2) 0 ≤ suc n) (sym (E.entries j)) (M.below j a (ap (λ (k : ℕ). k % 2) (sym (E.entries j)) ∙ b));
            same = λ j a b.
                ap (λ (k : ℕ). entry_at now (get_or nw (k / 2) 0 - 1)) (E.entries j) ∙ E.entries (get_or nw (entry_at ps j / 2) 0 - 1) ∙ M.same j a (ap (λ (k : ℕ). k % 2) (sym (E.entries j)) ∙ b) ∙ sym (E.entries j);
          };
          orders = λ p a b. sym (order_as ps now p (suc n) b (λ i c. E.entries i) ∙ sym (order_is p a b));
          few = K.few;
          blocked = K.blocked;
        }
      where
        order_is : (p : ℕ) → low ≤ p → p < suc n → order_at now p ≡ order_in ps p (suc n)
        order_is p a b =
            ⊎_elim
            (λ (z : p ≡ n).
            subst (λ (k : ℕ). order_at now k ≡ order_in ps k (suc n)) (sym z)
            (K.raised.others n (λ x y c. let w : ⊥ = omega arith in w) ∙ W.one ∙ sym (order_last ps n)))
            (λ (l : suc p ≤ n).
            ⊎_elim
            (λ (c : entry_at ps p ≡ e). K.raised.done p (omega arith) l c ∙ ap (λ (k : ℕ). k + 1) (W.orders p a l) ∙ sym (order_up ps p n l even c))
            (λ (c : entry_at ps p ≡ e → ⊥). K.raised.others p (λ x y z. c z) ∙ W.orders p a l ∙ sym (order_same ps p n l (λ x y. c y)))
            (same_or (entry_at ps p) e))
            (eq-or-lt_of_le (let z : p ≤ n = omega arith in z))

    pub walk_least : order (places_in ps low (n - low)) (decode e) ≤ r
    walk_least =
        let a = count_less ps (e / 2) at low n stop in
        let b : order (places_in ps low (n - low)) (decode e) ≡ suc (count (e / 2) (places_in ps low (n - low))) = ap (order (places_in ps low (n - low))) (decode_even e even) in
        omega (arith, K.raised.number)

pub linked_from : (w : ℕ) (ln : List ℕ) (t low low' n : ℕ) (ps : List LinkedPlace) (nw : List ℕ) (bs : List Block) → low ≤ low' → Linked w ln t low n ps nw bs → Linked w ln t low' n ps nw bs
linked_from w ln t low low' n ps nw bs h L =
    record { chained = L.chained; newest = L.newest; orders = λ p a b. L.orders p (omega arith) b; few = L.few; blocked = blocked_from ln t low low' n (order_at ps) bs h L.blocked }
