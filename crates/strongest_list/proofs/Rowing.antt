-- The stretches of an end by blocks: what is read of a block, and what its top says of those that are not read.
use Rattle.std.proofs.Common.{◌≡◌, ℕ, suc, ◌+◌, ◌-◌, ◌*◌, ◌/◌, ◌<◌, ◌≤◌, min, max, false, List, length, get_or, Option, refl, sym, ap, ap₂, ◌∙◌, subst, arith, ⊎_elim, eq-or-lt_of_le, add-mul, mul-le-mul_right}
use Rattle.intervals.proofs.Order.{lt_or_le}
use Rattle.strongest.specs.Terms.Reading.{Narrow}
use Rattle.strongest.proofs.Reading.{product_small}
use Rattle.strongest.proofs.Largest.{largest_at}
use Rattle.strongest_list.specs.declared.Request.{Request}
use Rattle.strongest_list.specs.declared.search.Candidate.{Candidate}
use Rattle.strongest_list.specs.declared.linked.LinkedPlace.{LinkedPlace}
use Rattle.strongest_list.specs.declared.blocks.Block.{Block}
use Rattle.strongest_list.specs.declared.rows.Read.{Read}
use Rattle.strongest_list.specs.declared.rows.Looked.{Looked}
use Rattle.strongest_list.specs.Mirrored.{Rises}
use Rattle.strongest_list.specs.Terms.Blocks.{no_block, order_at, value, gains, high, Below_top, Blocked}
use Rattle.strongest_list.specs.Terms.Rows.{reaches, offer, loss_of, gained, found, offers, Capped, read_next}
use Rattle.strongest_list.proofs.Orders.{rises_to}
use Rattle.strongest_list.proofs.Gains.{value_small, gains_split, gains_cons, gains_most}
use Rattle.strongest_list.proofs.Offering.{reaches_less, offers_none, offers_one, offers_split}

pub loss_small : (t : ℕ) (ln f : List ℕ) (w m : ℕ) → Narrow t ln f w → w ≤ 65535 → 0 < m → m ≤ w → m * t + get_or f m 0 < 9007199254740992
loss_small t ln f w m N h some k = omega (arith, product_small m t (omega arith) N.t_small, largest_at f w m some k, N.f_small)

-- Of the places before `end` the r newest were read.
pub record Reads (q : Request) (ps : List LinkedPlace) (count first end : ℕ) (looked : Looked) (r : ℕ) (x : Read) : Type 0 where
  pub best_is : x.best ≡ offers q ps first count looked.best (count - end) r
  pub gain_is : x.gain ≡ gains q.scoring.ln.now (order_at ps) (end - r) r
  pub ceiling_up : looked.ceiling ≤ x.ceiling
  pub capped : Capped q ps count x.ceiling (count - end) r
  pub top_is : (p : ℕ) → end ≤ p + r → p < end → Below_top q.scoring.threshold (gains q.scoring.ln.now (order_at ps) p (end - p)) (end - p) x.top
  pub top_small : x.top ≤ high

-- The blocks of an end were looked at down to place `end`.
pub record Looks (q : Request) (ps : List LinkedPlace) (count first low : ℕ) (best : Option Candidate) (bs : List Block) (end : ℕ) (looked : Looked) : Type 0 where
  pub low_in : low ≤ end
  pub within : end ≤ count
  pub whole : low < end → end ≡ min (64 * ((end - 1) / 64) + 64) count
  pub best_is : looked.best ≡ offers q ps first count best 0 (count - end)
  pub capped : Capped q ps count looked.ceiling 0 (count - end)
  pub after_is : low < end → looked.after ≡ gained q ps count (count - end)
  pub blocked : Blocked q.scoring.ln.now q.scoring.threshold low count (order_at ps) bs

module _ (q : Request) (ps : List LinkedPlace) (count : ℕ) (N : Narrow q.scoring.threshold q.scoring.ln.now q.scoring.f.now q.window_size) (few : (p : ℕ) → p < count → order_at ps p ≤ q.window_size) where
  abbrev t : ℕ
  t = q.scoring.threshold

  abbrev ln : List ℕ
  ln = q.scoring.ln.now

  abbrev ord : ℕ → ℕ
  ord = order_at ps

  pub small : (p : ℕ) → p < count → value ln (ord p) < 68719476736
  small p h = value_small t ln q.scoring.f.now q.window_size (ord p) N (few p h)

  pub gains_small : (p l : ℕ) → p + l ≤ count → gains ln ord p l ≤ l * 68719476736
  gains_small p l h = gains_most ln ord p l (λ i a b. small i (omega arith))

  -- ---- A block that is read, from its newest place on.
  module _ (first from end : ℕ) (looked : Looked) (order : from ≤ end) (block : end ≤ from + 64) (within : end ≤ count) (after_is : looked.after ≡ gained q ps count (count - end)) where
    abbrev newer : ℕ
    newer = count - end

    pub reads_none : Reads q ps count first end looked 0 (record { best = looked.best; ceiling = looked.ceiling; gain = 0; top = 0 })
    unfolding offers gains
    reads_none =
        record {
          best_is = refl;
          gain_is = refl;
          ceiling_up = omega arith;
          capped = record { at = λ i a b. absurd (let z : ⊥ = omega arith in z) };
          top_is = λ p a b. absurd (let z : ⊥ = omega arith in z);
          top_small = omega arith;
        }

    pub reads_gain : (r : ℕ) (x : Read) → r ≤ end - from → Reads q ps count first end looked r x → x.gain ≤ 4398046511104
    reads_gain r x h R = omega (arith, R.gain_is, gains_small (end - r) r (omega arith))

    pub after_small : count ≤ from + q.window_size → q.window_size ≤ 65535 → looked.after ≤ 4503530907893760
    after_small short w = omega (arith, after_is, gains_small (count - newer) newer (omega arith))

    pub reads_more : (r p : ℕ) (x y : Read) → r < end - from → p ≡ end - 1 - r → Reads q ps count first end looked r x → y ≡ read_next q x (first + p) (count - p) looked.after r (value ln (ord p)) → Reads q ps count first end looked (r + 1) y
    reads_more r p x y h p_is R y_is =
        let k : ℕ = newer + suc r in
        let size : count - p ≡ k = omega arith in
        let back : count - k ≡ p = omega arith in
        let v : ℕ = value ln (ord p) in
        let g1 : gains ln ord p (suc r) ≡ v + gains ln ord (end - r) r = gains_cons ln ord p r (end - r) (omega arith) in
        let g2 : gains ln ord p k ≡ gains ln ord p (suc r) + gains ln ord (p + suc r) newer = gains_split ln ord p (suc r) newer k (omega arith) in
        let g3 : gains ln ord (p + suc r) newer ≡ looked.after = ap (λ (a : ℕ). gains ln ord a newer) (let z : p + suc r ≡ count - newer = omega arith in z) ∙ sym after_is in
        let g4 : gains ln ord (count - k) k ≡ gains ln ord p k = ap (λ (a : ℕ). gains ln ord a k) back in
        let gain' : x.gain + v ≡ gains ln ord p (suc r) = omega (arith, R.gain_is, g1) in
        let all : looked.after + (x.gain + v) ≡ gains ln ord (count - k) k = omega (arith, g2, g3, g4, gain') in
        let c : Candidate = record { first = first + p; size = count - p; gain = looked.after + (x.gain + v); loss = loss_of q (count - p) } in
        let c_is : c ≡ found q ps first count k =
        ap₂ (λ (a b : ℕ). record { first = first + a; size = count - p; gain = b; loss = loss_of q (count - p) }) (sym back) all
        ∙ ap (λ (a : ℕ). record { first = first + (count - k); size = a; gain = gains ln ord (count - k) k; loss = loss_of q a }) size in
        let best' : offer q.floor x.best c ≡ offers q ps first count looked.best newer (suc r) = offers_one q ps first count looked.best x.best c newer r R.best_is c_is in
        let loss_is : loss_of q (count - p) ≡ loss_of q k = ap (loss_of q) size in
        let e1 : y.best ≡ offer q.floor x.best c = ap (λ (z : Read). z.best) y_is in
        let e2 : y.gain ≡ x.gain + v = ap (λ (z : Read). z.gain) y_is in
        let e3 : y.ceiling ≡ max x.ceiling (looked.after + (x.gain + v) - loss_of q (count - p)) = ap (λ (z : Read). z.ceiling) y_is in
        let e4 : y.top ≡ max x.top (x.gain + v + (63 - r) * t) = ap (λ (z : Read). z.top) y_is in
        let m1 : (63 - r + suc r) * t ≡ (63 - r) * t + suc r * t = add-mul (63 - r) (suc r) t in
        let m2 : (63 - r + suc r) * t ≡ 64 * t = ap (λ (a : ℕ). a * t) (let z : 63 - r + suc r ≡ 64 = omega arith in z) in
        let m3 : (63 - r) * t ≤ 63 * t = mul-le-mul_right t (let z : 63 - r ≤ 63 = omega arith in z) in
        let s : gains ln ord p (suc r) ≤ suc r * 68719476736 = gains_small p (suc r) (omega arith) in
        let n : suc r ≡ r + 1 = omega arith in
        subst (λ (a : ℕ). Reads q ps count first end looked a y) n
        (record {
          best_is = e1 ∙ best';
          gain_is = e2 ∙ gain' ∙ ap (λ (a : ℕ). gains ln ord a (suc r)) (let z : p ≡ end - suc r = omega arith in z);
          ceiling_up = omega (arith, R.ceiling_up, e3);
          capped = record {
            at = λ i a b.
                ⊎_elim
                (λ (z : i ≡ k).
                subst (λ (j : ℕ). gained q ps count j ≤ y.ceiling + loss_of q j) (sym z) (let u : gained q ps count k ≤ y.ceiling + loss_of q k = cap_new (gains ln ord (count - k) k) (looked.after + (x.gain + v)) (loss_of q (count - p)) (loss_of q k) x.ceiling y.ceiling all loss_is e3 in u))
                (λ (z : suc i ≤ k). let u = R.capped.at i a (omega arith) in let w : x.ceiling ≤ y.ceiling = cap_up (looked.after + (x.gain + v)) (loss_of q (count - p)) x.ceiling y.ceiling e3 in cap_old (gained q ps count i) (loss_of q i) x.ceiling y.ceiling u w)
                (eq-or-lt_of_le b);
          };
          top_is = λ a b c.
              ⊎_elim
              (λ (z : p ≡ a).
              subst (λ (j : ℕ). Below_top t (gains ln ord j (end - j)) (end - j) y.top) z
              (subst (λ (j : ℕ). Below_top t (gains ln ord p j) j y.top) (let u : suc r ≡ end - p = omega arith in u)
              (let u : Below_top t (gains ln ord p (suc r)) (suc r) y.top = top_new t (gains ln ord p (suc r)) (x.gain + v) (suc r * t) ((63 - r) * t) (64 * t) x.top y.top gain' (omega (arith, m1, m2)) e4 in u)))
              (λ (z : suc p ≤ a). top_old t (gains ln ord a (end - a)) ((end - a) * t) x.top y.top (x.gain + v + (63 - r) * t) (R.top_is a (omega arith) c) e4)
              (eq-or-lt_of_le (let z : p ≤ a = omega arith in z));
          top_small = omega (arith, R.top_small, e4, m3, s, gain', N.t_small);
        })
      where
        cap_new : (g all l l' x y : ℕ) → all ≡ g → l ≡ l' → y ≡ max x (all - l) → g ≤ y + l'
        cap_new g all l l' x y a b c = omega arith

        cap_up : (all l x y : ℕ) → y ≡ max x (all - l) → x ≤ y
        cap_up all l x y e = omega arith

        cap_old : (g l x y : ℕ) → g ≤ x + l → x ≤ y → g ≤ y + l
        cap_old g l x y a b = omega arith

        top_new : (t g g' a b c x y : ℕ) → g' ≡ g → b + a ≡ c → y ≡ max x (g' + b) → g + c ≤ y + a
        top_new t g g' a b c x y e f h = omega arith

        top_old : (t g a x y z : ℕ) → g + 64 * t ≤ x + a → y ≡ max x z → g + 64 * t ≤ y + a
        top_old t g a x y z h e = omega arith

    -- ---- A block that is not read.
    module _ (low : ℕ) (bs : List Block) (B : Blocked ln t low count ord bs) (J bound : ℕ) (J_in : J < length bs) (from_is : from ≡ max low (64 * J)) (end_is : end ≡ min (64 * J + 64) count) (some : from < end) (short : count ≤ from + q.window_size)
        (F : Rises q.scoring.f.now q.window_size) (bound_is : bound ≡ looked.after + (get_or bs J no_block).top - ((newer + 64) * t + get_or q.scoring.f.now (newer + 1) 0)) where
      pub bounded : (i : ℕ) → newer < i → i ≤ newer + (end - from) → gained q ps count i ≤ bound + loss_of q i
      bounded i a b =
          let p : ℕ = count - i in
          let l : ℕ = end - p in
          let g : gains ln ord p i ≡ gains ln ord p l + gains ln ord (p + l) newer = gains_split ln ord p l newer i (omega arith) in
          let h : gains ln ord (p + l) newer ≡ looked.after = ap (λ (k : ℕ). gains ln ord k newer) (let z : p + l ≡ count - newer = omega arith in z) ∙ sym after_is in
          let top : Below_top t (gains ln ord p l) l (get_or bs J no_block).top =
          subst (λ (e : ℕ). Below_top t (gains ln ord p (e - p)) (e - p) (get_or bs J no_block).top) (sym end_is) (B.top J p J_in (omega arith) (omega arith) (omega arith) (omega arith)) in
          let m1 : (newer + 64) * t ≡ newer * t + 64 * t = add-mul newer 64 t in
          let m2 : (newer + l) * t ≡ newer * t + l * t = add-mul newer l t in
          let m3 : i * t ≡ (newer + l) * t = ap (λ (k : ℕ). k * t) (let z : i ≡ newer + l = omega arith in z) in
          let f = rises_to q.scoring.f.now q.window_size (newer + 1) i F (omega arith) (omega arith) (omega arith) in
          numbers (gains ln ord p i) (gains ln ord p l) looked.after (get_or bs J no_block).top bound (newer * t) (64 * t) (l * t) ((newer + 64) * t) (i * t) (get_or q.scoring.f.now (newer + 1) 0) (get_or q.scoring.f.now i 0)
          (omega (arith, g, h)) top m1 (m3 ∙ m2) f bound_is
        where
          numbers : (g s a top bound n b l nb i f fi : ℕ) → g ≡ s + a → s + b ≤ top + l → nb ≡ n + b → i ≡ n + l → f ≤ fi → bound ≡ a + top - (nb + f) → g ≤ bound + (i + fi)
          numbers g s a top bound n b l nb i f fi h1 h2 h3 h4 h5 h6 = omega arith

      pub passed : reaches q.floor looked.best bound (count - from) ≡ false → offers q ps first count looked.best newer (end - from) ≡ looked.best
      passed h =
          offers_none q ps first count looked.best newer (end - from)
          (λ i a b. reaches_less q.floor looked.best bound (count - from) (gained q ps count i - loss_of q i) i h (omega (arith, bounded i a b)) (omega arith))

    module _ (low : ℕ) (bs : List Block) (B : Blocked ln t low count ord bs) (J after : ℕ) (J_in : J < length bs) (from_is : from ≡ max low (64 * J)) (end_is : end ≡ min (64 * J + 64) count) (some : from < end)
        (after'_is : after ≡ looked.after + (get_or bs J no_block).gain) where
      pub after_block : low < from → after ≡ gained q ps count (count - from)
      after_block h =
          let whole : from ≡ 64 * J = omega arith in
          let g = B.gain J J_in in
          let a : gains ln ord (64 * J) (min 64 (count - 64 * J)) ≡ gains ln ord from (end - from) = ap₂ (λ (p l : ℕ). gains ln ord p l) (sym whole) (let z : min 64 (count - 64 * J) ≡ end - from = omega arith in z) in
          let b : gains ln ord from (count - from) ≡ gains ln ord from (end - from) + gains ln ord (from + (end - from)) newer = gains_split ln ord from (end - from) newer (count - from) (omega arith) in
          let c : gains ln ord (from + (end - from)) newer ≡ looked.after = ap (λ (p : ℕ). gains ln ord p newer) (let z : from + (end - from) ≡ count - newer = omega arith in z) ∙ sym after_is in
          let d : gained q ps count (count - from) ≡ gains ln ord from (count - from) = ap (λ (p : ℕ). gains ln ord p (count - from)) (let z : count - (count - from) ≡ from = omega arith in z) in
          omega (arith, after'_is, g, a, b, c, d)

  -- ---- All blocks of an end.
  pub looks_none : (first low : ℕ) (best : Option Candidate) (bs : List Block) → low ≤ count → Blocked ln t low count ord bs → Looks q ps count first low best bs count (record { best = best; ceiling = 0; after = 0 })
  unfolding offers gains
  looks_none first low best bs h B =
      let none : count - count ≡ 0 = omega arith in
      record {
        low_in = h;
        within = omega arith;
        whole = λ k. omega arith;
        best_is = sym (ap (offers q ps first count best 0) none);
        capped = record { at = λ i a b. absurd (let z : ⊥ = omega arith in z) };
        after_is = λ k. sym (ap (gained q ps count) none);
        blocked = B;
      }

  pub looks_more : (first low : ℕ) (best : Option Candidate) (bs bs' : List Block) (end from : ℕ) (x y : Looked) → Looks q ps count first low best bs end x → low < end → from ≡ max low (64 * ((end - 1) / 64))
      → y.best ≡ offers q ps first count x.best (count - end) (end - from) → x.ceiling ≤ y.ceiling → Capped q ps count y.ceiling (count - end) (end - from) → (low < from → y.after ≡ gained q ps count (count - from)) → Blocked ln t low count ord bs'
      → Looks q ps count first low best bs' from y
  looks_more first low best bs bs' end from x y L go from_is b c cap a B =
      let w = L.within in
      record {
        low_in = omega arith;
        within = omega arith;
        whole = λ k. let e = L.whole go in omega arith;
        best_is = b ∙ ap (λ (o : Option Candidate). offers q ps first count o (count - end) (end - from)) L.best_is
            ∙ sym (offers_split q ps first count best 0 (count - end) (count - end) (end - from) (count - from) (omega arith) (omega arith));
        capped = record {
          at = λ i s e. ⊎_elim (λ (z : count - end < i). cap.at i z (omega arith)) (λ (z : i ≤ count - end). omega (arith, L.capped.at i s (omega arith), c)) (lt_or_le (count - end) i);
        };
        after_is = a;
        blocked = B;
      }

  -- No stretch reaches what was found.
  pub none_reach : (first low ceiling : ℕ) (best : Option Candidate) → Capped q ps count ceiling 0 (count - low) → reaches q.floor best ceiling (count - low) ≡ false → offers q ps first count best 0 (count - low) ≡ best
  none_reach first low ceiling best C h =
      offers_none q ps first count best 0 (count - low)
      (λ i a b. reaches_less q.floor best ceiling (count - low) (gained q ps count i - loss_of q i) i h (omega (arith, C.at i a b)) (omega arith))
