-- What the newest places add to a stretch, by its counts and the orders of their cells (`taken_on`); where that falls short, no forward scan from the middle is best at the newest place (`all_short`),
-- and where all other starts are low, the search finds nothing (`none_but`).
use Rattle.std.proofs.Common.{◌≡◌, refl, sym, ap, ◌∙◌, subst, ⊎_elim, ◌⊎◌, inl, inr, ℕ, suc, ◌+◌, ◌*◌, ◌-◌, ◌≤◌, ◌<◌, arith, List, [], ◌∷◌, ◌++◌, length, get_or, take, drop, length-take, length-drop, take-suc, take-append-drop, drop-drop, get_or-drop, pos, nat_abs, Float}
use lib.Seq.{take-length}
use Rattle.floats.specs.Terms.Rounded.{pos64}
use Rattle.letters.specs.Place.{Place, ambiguous, plain, Below, BelowAt}
use Rattle.scans.specs.Setup.{f_at, kmers}
use Rattle.scans.specs.Counts.{count}
use Rattle.scans.specs.Scans.{Find, none, dust_forward}
use Rattle.scans.specs.Terms.Counted.{Counted}
use Rattle.scans.specs.Terms.Units.{margin}
use Rattle.scans.specs.Terms.Units.{gain as exact_gain, loss as exact_loss}
use Rattle.scans.proofs.Counting.{count_append, count_snoc, hit_self, below_drop, below_take}
use Rattle.scans.proofs.Exact.{sums_snoc}
use Rattle.scans.proofs.Finds.{backward_facts}
use Rattle.scans.proofs.Shape.{usual_range, usual_shape}
use Rattle.search.proofs.FallShort.{without, none_ends}
use Rattle.deep.specs.declared.Scale.{Scale}
use Rattle.deep.specs.declared.Middle.{Middle}
use Rattle.deep.specs.Scores.{order, gain, loss, mu}
use Rattle.deep.specs.Terms.Cells.{place, order_at}
use Rattle.deep.specs.Terms.Short.{order_left, AllShort, NoneBut}
use Rattle.deep.proofs.Exactly.{entry, gain_is, adds_is}
use Rattle.deep.proofs.Sums.{three}
use Rattle.deep.proofs.Near.{sure_below, sure_short, low_fails}

lt_or_le : (a b : ℕ) → (a < b) ⊎ (b ≤ a)
lt_or_le a b = ⊎_elim (λ (e : a ≡ b). inr (omega arith)) (λ (d : (a < b) ⊎ (b < a)). ⊎_elim (λ (l : a < b). inl l) (λ (l : b < a). inr (omega arith)) d) (three a b)

le_or_lt : (a b : ℕ) → (a ≤ b) ⊎ (b < a)
le_or_lt a b = ⊎_elim (λ (e : a ≡ b). inl (omega arith)) (λ (d : (a < b) ⊎ (b < a)). ⊎_elim (λ (l : a < b). inl (omega arith)) (λ (l : b < a). inr l) d) (three a b)

pos_same : (a b : ℕ) → pos a ≡ pos b → a ≡ b
pos_same a b e = ap nat_abs e

-- ---- The newest place of a stretch adds the ln entry of its order before the others.
module _ (ln : List ℕ) (n0 : get_or ln 0 0 ≡ 0) (m : ℕ) where
  pub gain_snoc : (q : List Place) (e : Place) → Below m q → BelowAt m e → Below m (q ++ e ∷ []) → gain ln (q ++ e ∷ []) ≡ gain ln q + get_or ln (order q e) 0
  gain_snoc q e b be ba =
      pos_same (gain ln (q ++ e ∷ [])) (gain ln q + get_or ln (order q e) 0)
      (sym (gain_is ln n0 m (q ++ e ∷ []) ba) ∙ sums_snoc (entry ln) m q e be ∙ rw (gain_is ln n0 m q b, adds_is ln n0 m q e) refl)

-- ---- The l newest places were read, all newer than the middle.
pub record Taken (s : Scale) (q : List Place) (a l sum : ℕ) : Type 0 where
  pub gain_is : gain s.ln.now (drop a q) ≡ sum + gain s.ln.now (without q a l)
  pub small : sum ≤ l * 137438953472

module _ (s : Scale) (n0 : get_or s.ln.now 0 0 ≡ 0) (ln_small : (c : ℕ) → get_or s.ln.now c 0 < 137438953472) (q : List Place) (m : ℕ) (b : Below m q) (a : ℕ) where
  pub none_taken : Taken s q a 0 0
  none_taken =
      let e : without q a 0 ≡ drop a q = ap (λ (k : ℕ). take k (drop a q)) (let y : length q - a - 0 ≡ length (drop a q) = omega (arith, length-drop a q) in y) ∙ take-length (drop a q) in
      record { gain_is = omega (arith, ap (gain s.ln.now) e); small = omega arith }

  module _ (l : ℕ) (inside : a + suc l ≤ length q) where
    abbrev j : ℕ
    j = length q - suc l

    abbrev seen : List Place
    seen = without q a (suc l)

    next : without q a l ≡ seen ++ place q j ∷ []
    next =
        let i : ℕ = length q - a - suc l in
        let x : length q - a - l ≡ suc i = omega arith in
        let y : a + i ≡ j = omega arith in
        ap (λ (k : ℕ). take k (drop a q)) x ∙ take-suc (drop a q) i ambiguous (omega (arith, length-drop a q))
        ∙ ap (λ (p : Place). seen ++ p ∷ []) (get_or-drop a q i ambiguous ∙ ap (λ (k : ℕ). get_or q k ambiguous) y)

    pub below_here : BelowAt m (place q j)
    below_here = (below_last seen (place q j) (subst (λ (r : List Place). Below m r) next (below_take m (length q - a - l) (drop a q) (below_drop m a q b))))
      where
        below_last : (r : List Place) (e : Place) → Below m (r ++ e ∷ []) → BelowAt m e
        below_last [] e h = h.0
        below_last (x ∷ r) e h = below_last r e h.1

    -- Its order before the older places of the stretch, by the counts of the stretch and its order before the newer ones.
    all_count : (x : ℕ) → count x (drop a q) ≡ count x (seen ++ place q j ∷ []) + count x (drop (suc j) q)
    all_count x =
        let k : ℕ = length q - a - l in
        let y : a + k ≡ suc j = omega arith in
        ap (count x) (sym (take-append-drop k (drop a q))) ∙ count_append x (without q a l) (drop k (drop a q))
        ∙ (let u = ap (count x) next in let v = ap (count x) (drop-drop k a q ∙ ap (λ (i : ℕ). drop i q) y) in omega (arith, u, v))

    pub left_is : (counts : List ℕ) → Counted m counts (drop a q) → order_left counts (order_at q j) (place q j) ≡ order seen (place q j)
    left_is counts c = go (place q j) refl
      where
        go : (p : Place) → place q j ≡ p → order_left counts (order (drop (suc j) q) p) p ≡ order seen p
        go ambiguous e = refl
        go (plain x) e =
            omega (
              arith,
              c.counted x,
              all_count x,
              count_snoc x seen (place q j),
              ap (λ (p : Place). count x (seen ++ p ∷ [])) e,
              count_snoc x seen (plain x),
              hit_self x,
            )

    pub left_few : (counts : List ℕ) → Counted m counts (drop a q) → (x : ℕ) → place q j ≡ plain x → (0 < order_at q j) × (order_at q j ≤ get_or counts x 0 + 1)
    left_few counts c x e =
        let at : order_at q j ≡ suc (count x (drop (suc j) q)) = ap (order (drop (suc j) q)) e in
        (omega (arith, at), omega (arith, at, c.counted x, all_count x))

    pub taken_on : (sum v : ℕ) → Taken s q a l sum → v ≡ get_or s.ln.now (order seen (place q j)) 0 → Taken s q a (suc l) (sum + v)
    taken_on sum v t is =
        let bs : Below m seen = below_take m (length q - a - suc l) (drop a q) (below_drop m a q b) in
        let bn : Below m (seen ++ place q j ∷ []) = subst (λ (r : List Place). Below m r) next (below_take m (length q - a - l) (drop a q) (below_drop m a q b)) in
        let g = gain_snoc s.ln.now n0 m seen (place q j) bs below_here bn in
        record {
          gain_is = omega (arith, t.gain_is, ap (gain s.ln.now) next, g, is);
          small = omega (arith, t.small, is, ln_small (order seen (place q j)));
        }

-- ---- Where they fall short.
pub all_short : (s : Scale) (q : List Place) (m : Middle) (l sum : ℕ) → Taken s q m.from l sum → 0 < l → l ≤ m.low → m.from + m.low < length q
    → sum + get_or s.f.now (m.low + 1 - l) 0 + mu ≤ l * s.threshold + get_or s.f.now (m.low + 1) 0 → AllShort s q m
all_short s q m l sum t some few inside test =
    record {
      fails = λ S c u b h.
          let R = usual_range u in
          let a : ℕ = m.from in
          let z : ℕ = length q - m.low - 1 in
          let y : ℕ = m.low + 1 - l in
          let y_l : y + l ≡ m.low + 1 = omega arith in
          let y_is : length q - z - l ≡ y = omega arith in
          let z_is : length q - z ≡ y + l = omega arith in
          let short = sure_short S R s.threshold s.ln.now s.f.now c (drop a q) (without q a l) l y (below_drop (kmers S) a q b) (below_take (kmers S) (length q - a - l) (drop a q) (below_drop (kmers S) a q b))
          (omega (arith, length-drop a q, h)) (omega (arith, length-take (length q - a - l) (drop a q), h)) (omega arith) (omega (arith, h))
          (omega (arith, t.gain_is, test, ap (λ (i : ℕ). get_or s.f.now i 0) y_l)) in
          none_ends S R (usual_shape u) q b h a z (omega arith) l some (omega arith)
          (omega (arith, short, ap (λ (i : ℕ). pos64 (f_at S i)) y_is, ap (λ (i : ℕ). pos64 (f_at S i)) z_is));
    }

pub none_but : (s : Scale) (q : List Place) (m : Middle) → m.from + m.low < length q → AllShort s q m → NoneBut s q m
none_but s q m inside short =
    record {
      finds_none = λ o. record {
        none_found = λ S c u b h.
            let R = usual_range u in
            let fails = (short.fails S c u b h).fails in
            let low : (j : ℕ) (x : Float) → ((l : ℕ) → j + l ≡ length q → 0 < l → (l ≤ m.low) ⊎ (j < m.from)) → (dust_forward S q j x).sums.found ≡ length q → ⊥ =
            λ j x out e. low_fails S R q b h (omega arith) j x
            (λ l at some.
            let long : length (drop j q) ≡ l = omega (arith, length-drop j q) in
            let test : gain s.ln.now (drop j q) + mu ≤ loss s.threshold s.f.now (length (drop j q)) = subst (λ (k : ℕ). gain s.ln.now (drop j q) + mu ≤ loss s.threshold s.f.now k) (sym long) (o.low j l at some (out l at some)) in
            subst (λ (k : ℕ). exact_gain S (drop j q) + margin ≤ exact_loss S k) long
            (sure_below S R s.threshold s.ln.now s.f.now c (drop j q) (below_drop (kmers S) j q b) (omega (arith, h)) (omega arith) test)) e in
            let here : (j : ℕ) (x : Float) → (j < m.from) ⊎ (m.from ≤ j) → (j ≤ length q - m.low - 1) ⊎ (length q - m.low - 1 < j) → (dust_forward S q j x).sums.found ≡ length q → ⊥ =
            λ j x k n e. ⊎_elim (λ (old : j < m.from). low j x (λ l at some. inr old) e)
            (λ (in_from : m.from ≤ j). ⊎_elim (λ (in_to : j ≤ length q - m.low - 1). fails j x in_from in_to e) (λ (new : length q - m.low - 1 < j). low j x (λ l at some. inl (omega arith)) e) n) k in
            backward_facts S q (λ (r : Find) _. r ≡ none) (λ _. refl) (λ j x e. absurd (here j x (lt_or_le j m.from) (le_or_lt j (length q - m.low - 1)) e));
      };
    }
