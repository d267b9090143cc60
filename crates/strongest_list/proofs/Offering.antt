-- The stretches of an end, offered one after another: the best of those that were found and these.
use Rattle.std.proofs.Common.{◌≡◌, ℕ, zero, suc, ◌+◌, ◌-◌, ◌<◌, ◌≤◌, Bool, true, false, cond, ltb, leb, ◌&&◌, ◌||◌, not, List, Option, None, Some, ℤ, pos, refl, sym, ap, ap₂, ◌∙◌, subst, arith, ◌⊎◌, inl, inr, ⊎_elim, true≢false, eqb, ltb-true, ltb-false, lt-ltb, le-ltb, le-leb, leb-true, eqb-true, eq-or-lt_of_le}
use lib.Signed.{lt_z}
use borrow.Author.Tests.{eqb-false}
use Rattle.floats.proofs.Whole.{Is, le_is}
use Rattle.intervals.proofs.Order.{lt_or_le}
use Rattle.strongest.proofs.Order.{is_pos, difference_is, lt_is}
use Rattle.strongest_list.specs.declared.Request.{Request}
use Rattle.strongest_list.specs.declared.search.Candidate.{Candidate}
use Rattle.strongest_list.specs.declared.linked.LinkedPlace.{LinkedPlace}
use Rattle.strongest_list.specs.Stretches.{Stretch, beats}
use Rattle.strongest_list.specs.Terms.Best.{Chosen, Eligible, score_of_codes, EndsAt, Exact, Picks, stretch_of}
use Rattle.strongest_list.specs.Terms.Codes.{AllBarred}
use Rattle.strongest_list.specs.Terms.Tiles.{EndsIn}
use Rattle.strongest_list.specs.Terms.Rows.{reaches, offer, found, offers}
use Rattle.strongest_list.proofs.Ranking.{not_beats, below_refl, same_stretch}
use Rattle.strongest_list.proofs.Choosing.{only_left, only_right, better_right}

-- ---- The test, on numbers: the best has score h and m places, the other s and n.
abbrev test : ℕ → ℕ → ℕ → ℕ → Bool
test h m s n = ltb h s || (eqb h s && ltb m n)

test_by : (h m s n : ℕ) → ((test h m s n ≡ true) × ((h < s) ⊎ ((h ≡ s) × (m < n)))) ⊎ ((test h m s n ≡ false) × ((s ≤ h) × (h ≡ s → n ≤ m)))
test_by h m s n = go (ltb h s) (eqb h s) (ltb m n) refl refl refl
  where
    go : (a b c : Bool) → ltb h s ≡ a → eqb h s ≡ b → ltb m n ≡ c → (((a || (b && c)) ≡ true) × ((h < s) ⊎ ((h ≡ s) × (m < n)))) ⊎ (((a || (b && c)) ≡ false) × ((s ≤ h) × (h ≡ s → n ≤ m)))
    go true b c p q r = inl (refl, inl (ltb-true h s p))
    go false true true p q r = inl (refl, inr (eqb-true h s q, ltb-true m n r))
    go false true false p q r = inr (refl, (ltb-false h s p, λ e. ltb-false m n r))
    go false false c p q r = inr (refl, (ltb-false h s p, λ e. absurd (eqb-false h s q e)))

-- A lower score with fewer places does not reach either.
pub reaches_less : (floor : ℕ) (b : Option Candidate) (c n s m : ℕ) → reaches floor b c n ≡ false → s ≤ c → m ≤ n → reaches floor b s m ≡ false
reaches_less floor None c n s m h k l = let i = ltb-false floor c h in le-ltb floor s (omega arith)
reaches_less floor (Some x) c n s m h k l =
    ⊎_elim
    (λ p. absurd (true≢false (sym p.0 ∙ h)))
    (λ p.
    ⊎_elim
    (λ q.
    let i = p.1.0 in
    absurd (⊎_elim (λ (j : x.gain - x.loss < s). let z : ⊥ = omega arith in z) (λ j. let e = j.0 in let f = j.1 in let g = p.1.1 (omega arith) in let z : ⊥ = omega arith in z) q.1))
    (λ q. q.0)
    (test_by (x.gain - x.loss) x.size s m))
    (test_by (x.gain - x.loss) x.size c n)

pub left_out : (s r : Bool) → s && not r ≡ true → (s ≡ true) × (r ≡ false)
left_out true false e = (refl, refl)
left_out true true e = absurd (true≢false (sym e))
left_out false r e = absurd (true≢false (sym e))

-- ---- Offers.
module _ (q : Request) (ps : List LinkedPlace) (first count : ℕ) where
  pub offers_none : (b : Option Candidate) (l m : ℕ) → ((i : ℕ) → l < i → i ≤ l + m → reaches q.floor b ((found q ps first count i).gain - (found q ps first count i).loss) i ≡ false)
      → offers q ps first count b l m ≡ b
  unfolding offers
  offers_none b l zero h = refl
  offers_none b l (suc m) h =
      let c : Candidate = found q ps first count (l + suc m) in
      ap (λ (o : Option Candidate). offer q.floor o c) (offers_none b l m (λ i j k. h i j (omega arith)))
      ∙ ap (λ (t : Bool). cond t (Some c) b) (h (l + suc m) (omega arith) (omega arith))

  pub offers_split : (b : Option Candidate) (l m l' m' n : ℕ) → n ≡ m + m' → l' ≡ l + m → offers q ps first count b l n ≡ offers q ps first count (offers q ps first count b l m) l' m'
  unfolding offers
  offers_split b l m l' zero n e g = ap (offers q ps first count b l) (let z : n ≡ m = omega arith in z)
  offers_split b l m l' (suc m') zero e g = absurd (let z : ⊥ = omega arith in z)
  offers_split b l m l' (suc m') (suc n) e g =
      ap₂ (λ (o : Option Candidate) (k : ℕ). offer q.floor o (found q ps first count k)) (offers_split b l m l' m' n (omega arith) g) (let z : l + suc n ≡ l' + suc m' = omega arith in z)

  pub offers_one : (b o : Option Candidate) (c : Candidate) (l m : ℕ) → o ≡ offers q ps first count b l m → c ≡ found q ps first count (l + suc m) → offer q.floor o c ≡ offers q ps first count b l (suc m)
  unfolding offers
  offers_one b o c l m e g = ap₂ (λ (x : Option Candidate) (y : Candidate). offer q.floor x y) e g

-- ---- What an offer does to the best of a set.
module _ (q : Request) (cs : List ℕ) where
  abbrev f : Stretch → ℤ
  f = score_of_codes q cs

  exact_is : (c : Candidate) → Exact f c → Is (f (stretch_of c)) c.gain c.loss
  exact_is c e = subst (λ (z : ℤ). Is z c.gain c.loss) (sym e.is) (difference_is c.gain c.loss)

  -- It scores above the floor.
  above_floor : (c : Candidate) → Exact f c → lt_z (pos q.floor) (f (stretch_of c)) ≡ true → q.floor + c.loss < c.gain
  above_floor c e h =
      let z = ltb-true (q.floor + c.loss) (c.gain + 0) (sym (lt_is (pos q.floor) (f (stretch_of c)) q.floor 0 c.gain c.loss (is_pos q.floor) (exact_is c e)) ∙ h) in
      omega arith

  floor_above : (c : Candidate) → Exact f c → q.floor + c.loss < c.gain → lt_z (pos q.floor) (f (stretch_of c)) ≡ true
  floor_above c e h = lt_is (pos q.floor) (f (stretch_of c)) q.floor 0 c.gain c.loss (is_pos q.floor) (exact_is c e) ∙ lt-ltb (q.floor + c.loss) (c.gain + 0) (omega arith)

  -- Of two, the second of which ends no earlier.
  beats_test : (o c : Candidate) → Exact f o → Exact f c → o.first + o.size ≤ c.first + c.size
      → beats f (stretch_of c) (stretch_of o) ≡ (ltb (o.gain + c.loss) (c.gain + o.loss) || (leb (o.gain + c.loss) (c.gain + o.loss) && ltb o.size c.size))
  beats_test o c e g h =
      ap₂ (λ (x y : Bool). x || (y && (ltb o.size c.size || (eqb o.size c.size && ltb c.first o.first))))
      (lt_is (f (stretch_of o)) (f (stretch_of c)) o.gain o.loss c.gain c.loss (exact_is o e) (exact_is c g))
      (le_is (f (stretch_of o)) (f (stretch_of c)) o.gain o.loss c.gain c.loss (exact_is o e) (exact_is c g))
      ∙ ap (λ (z : Bool). ltb (o.gain + c.loss) (c.gain + o.loss) || (leb (o.gain + c.loss) (c.gain + o.loss) && z)) (later (ltb o.size c.size) (eqb o.size c.size) refl)
    where
      later : (a b : Bool) → eqb o.size c.size ≡ b → a || (b && ltb c.first o.first) ≡ a
      later true b p = refl
      later false false p = refl
      later false true p = let q = eqb-true o.size c.size p in le-ltb c.first o.first (omega arith)

  reaches_beats : (o c : Candidate) → Exact f o → Exact f c → o.first + o.size ≤ c.first + c.size → o.loss < o.gain
      → beats f (stretch_of c) (stretch_of o) ≡ reaches q.floor (Some o) (c.gain - c.loss) c.size
  reaches_beats o c e g h k =
      beats_test o c e g h
      ∙ ⊎_elim
      (λ p.
      ⊎_elim
      (λ (l : o.gain - o.loss < c.gain - c.loss).
      ap (λ (t : Bool). t || (leb (o.gain + c.loss) (c.gain + o.loss) && ltb o.size c.size)) (lt-ltb (o.gain + c.loss) (c.gain + o.loss) (omega arith)) ∙ sym p.0)
      (λ l.
      let a = l.0 in
      or_true (ltb (o.gain + c.loss) (c.gain + o.loss)) (leb (o.gain + c.loss) (c.gain + o.loss)) (ltb o.size c.size) (le-leb (o.gain + c.loss) (c.gain + o.loss) (omega arith)) (lt-ltb o.size c.size l.1) ∙ sym p.0)
      p.1)
      (λ p.
      let a = p.1.0 in
      ap (λ (t : Bool). t || (leb (o.gain + c.loss) (c.gain + o.loss) && ltb o.size c.size)) (le-ltb (o.gain + c.loss) (c.gain + o.loss) (omega arith))
      ∙ both (leb (o.gain + c.loss) (c.gain + o.loss)) (ltb o.size c.size) refl (λ i. le-ltb o.size c.size (p.1.1 (let j = leb-true (o.gain + c.loss) (c.gain + o.loss) i in omega arith)))
      ∙ sym p.0)
      (test_by (o.gain - o.loss) o.size (c.gain - c.loss) c.size)
    where
      or_true : (x y z : Bool) → y ≡ true → z ≡ true → x || (y && z) ≡ true
      or_true true y z a b = refl
      or_true false true true a b = refl
      or_true false true false a b = absurd (true≢false (sym b))
      or_true false false z a b = absurd (true≢false (sym a))

      both : (y z : Bool) → y ≡ y → (y ≡ true → z ≡ false) → y && z ≡ false
      both true z e h = h refl
      both false z e h = refl

  -- The set c alone.
  record Alone (c : Candidate) (s : Stretch) : Type 0 where
    is : s ≡ stretch_of c
    eligible : Eligible q cs s

  module _ (c : Candidate) (e : Exact f c) (P R : Stretch → Type 0) (left : (s : Stretch) → P s → R s) (right : Eligible q cs (stretch_of c) → R (stretch_of c)) (both : (s : Stretch) → R s → P s ⊎ ((s ≡ stretch_of c) × Eligible q cs s))
      (eligible : (s : Stretch) → P s → Eligible q cs s) (earlier : (s : Stretch) → P s → s.first + s.size ≤ c.first + c.size) (here : lt_z (pos q.floor) (f (stretch_of c)) ≡ true → Eligible q cs (stretch_of c)) where
    right_all : (s : Stretch) → Alone c s → R s
    right_all s a = subst R (sym a.is) (right (subst (Eligible q cs) a.is a.eligible))

    both_all : (s : Stretch) → R s → P s ⊎ Alone c s
    both_all s r = ⊎_elim (λ p. inl p) (λ p. inr (record { is = p.0; eligible = p.1 })) (both s r)

    alone : Eligible q cs (stretch_of c) → Chosen f (Alone c) (Some (stretch_of c))
    alone g = (record { is = refl; eligible = g }, λ s a. subst (λ (x : Stretch). beats f x (stretch_of c) ≡ false) (sym a.is) (not_beats f (stretch_of c) (stretch_of c) (below_refl f (stretch_of c))))

    pub offered : (o : Option Candidate) → Picks f P o → Picks f R (offer q.floor o c)
    offered None h = by (ltb q.floor (c.gain - c.loss)) refl
      where
        by : (t : Bool) → ltb q.floor (c.gain - c.loss) ≡ t → Picks f R (cond t (Some c) None)
        by true g =
            let l = ltb-true q.floor (c.gain - c.loss) g in
            record { chosen = only_right f P (Alone c) R left right_all both_all (Some (stretch_of c)) h.chosen (alone (here (floor_above c e (omega arith)))); exact = e }
        by false g =
            let l = ltb-false q.floor (c.gain - c.loss) g in
            record {
              chosen = only_left f P (Alone c) R left right_all both_all None h.chosen
                  (λ s a. let m = above_floor c e (subst (λ (x : Stretch). lt_z (pos q.floor) (f x) ≡ true) a.is a.eligible.high) in let z : ⊥ = omega arith in z);
              exact = tt;
            }
    offered (Some o) h = by (reaches q.floor (Some o) (c.gain - c.loss) c.size) refl
      where
        high : o.loss < o.gain
        high = omega (arith, above_floor o h.exact (eligible (stretch_of o) h.chosen.0).high)

        test_is : beats f (stretch_of c) (stretch_of o) ≡ reaches q.floor (Some o) (c.gain - c.loss) c.size
        test_is = reaches_beats o c h.exact e (earlier (stretch_of o) h.chosen.0) high

        by : (t : Bool) → reaches q.floor (Some o) (c.gain - c.loss) c.size ≡ t → Picks f R (cond t (Some c) (Some o))
        by true g =
            let a = above_floor o h.exact (eligible (stretch_of o) h.chosen.0).high in
            let above : q.floor + c.loss < c.gain =
            ⊎_elim
            (λ p. ⊎_elim (λ (l : o.gain - o.loss < c.gain - c.loss). let z : q.floor + c.loss < c.gain = omega arith in z) (λ l. let m = l.0 in let z : q.floor + c.loss < c.gain = omega arith in z) p.1)
            (λ p. absurd (true≢false (sym g ∙ p.0)))
            (test_by (o.gain - o.loss) o.size (c.gain - c.loss) c.size) in
            record { chosen = better_right f P (Alone c) R left right_all both_all (stretch_of o) (stretch_of c) h.chosen (alone (here (floor_above c e above))) (test_is ∙ g); exact = e }
        by false g =
            record {
              chosen = (
                left (stretch_of o) h.chosen.0,
                λ s r. ⊎_elim (λ p. h.chosen.1 s p) (λ a. subst (λ (x : Stretch). beats f x (stretch_of o) ≡ false) (sym a.is) (test_is ∙ g)) (both_all s r),
              );
              exact = h.exact;
            }

  pub picks_as : (P Q : Stretch → Type 0) (o : Option Candidate) → ((s : Stretch) → P s → Q s) → ((s : Stretch) → Q s → P s) → Picks f P o → Picks f Q o
  picks_as P Q None g h p = record { chosen = λ s z. p.chosen s (h s z); exact = p.exact }
  picks_as P Q (Some x) g h p = record { chosen = (g (stretch_of x) p.chosen.0, λ s z. p.chosen.1 s (h s z)); exact = p.exact }

  -- ---- End b: those of l places at most join the ends lo .. b - 1.
  module _ (ps : List LinkedPlace) (first count lo b m : ℕ) (low : lo ≤ b)
      (exact : (l : ℕ) → 0 < l → l ≤ m → Exact f (found q ps first count l))
      (ends : (l : ℕ) → 0 < l → l ≤ m → (found q ps first count l).first + l ≡ b + 1)
      (free : (l : ℕ) → 0 < l → l ≤ m → lt_z (pos q.floor) (f (stretch_of (found q ps first count l))) ≡ true → Eligible q cs (stretch_of (found q ps first count l)))
      (most : (s : Stretch) → EndsAt q cs b s → s.size ≤ m) where
    record Part (l : ℕ) (s : Stretch) : Type 0 where
      eligible : Eligible q cs s
      from : lo < s.first + s.size
      to : (s.first + s.size ≤ b) ⊎ ((s.first + s.size ≡ b + 1) × (s.size ≤ l))

    turn : (o : Option Candidate) (l k : ℕ) → k ≡ suc l → k ≤ m → Picks f (Part l) o → Picks f (Part k) (offer q.floor o (found q ps first count k))
    turn o l k e h p =
        let c : Candidate = found q ps first count k in
        let there : c.first + k ≡ b + 1 = ends k (omega arith) h in
        offered c (exact k (omega arith) h) (Part l) (Part k)
        (λ s a. record { eligible = a.eligible; from = a.from; to = ⊎_elim (λ i. inl i) (λ i. inr (i.0, omega (arith, i.1))) a.to })
        (λ g. record { eligible = g; from = omega arith; to = inr (there, omega arith) })
        (λ s a.
        ⊎_elim
        (λ (i : s.first + s.size ≤ b). inl (record { eligible = a.eligible; from = a.from; to = inl i }))
        (λ i.
        let i0 = i.0 in
        ⊎_elim
        (λ (j : s.size ≡ k). inr (same_stretch s (stretch_of c) (let z : s.first ≡ c.first = omega arith in z) j, a.eligible))
        (λ (j : suc s.size ≤ k). inl (record { eligible = a.eligible; from = a.from; to = inr (i0, omega arith) }))
        (eq-or-lt_of_le i.1))
        a.to)
        (λ s a. a.eligible)
        (λ s a. ⊎_elim (λ i. let z : s.first + s.size ≤ c.first + k = omega arith in z) (λ i. let j = i.0 in let z : s.first + s.size ≤ c.first + k = omega arith in z) a.to)
        (free k (omega arith) h)
        o p

    all : (o : Option Candidate) (l : ℕ) → l ≤ m → Picks f (Part 0) o → Picks f (Part l) (offers q ps first count o 0 l)
    unfolding offers
    all o zero h p = p
    all o (suc l) h p =
        let e : 0 + suc l ≡ suc l = omega arith in
        subst (λ (k : ℕ). Picks f (Part (suc l)) (offer q.floor (offers q ps first count o 0 l) (found q ps first count k))) (sym e) (turn (offers q ps first count o 0 l) l (suc l) refl h (all o l (omega arith) p))

    pub end_joins : (e : ℕ) (o : Option Candidate) → e ≡ b + 1 → Picks f (EndsIn q cs lo b) o → Picks f (EndsIn q cs lo e) (offers q ps first count o 0 m)
    end_joins e o same p =
        picks_as (Part m) (EndsIn q cs lo e) (offers q ps first count o 0 m)
        (λ s a. record { eligible = a.eligible; from = a.from; to = ⊎_elim (λ i. omega arith) (λ i. let j = i.0 in omega arith) a.to })
        (λ s a.
        let t = a.to in
        record {
          eligible = a.eligible;
          from = a.from;
          to = ⊎_elim
              (λ (i : s.first + s.size ≡ b + 1). inr (i, most s (record { eligible = a.eligible; ends = i })))
              (λ (i : suc (s.first + s.size) ≤ b + 1). inl (omega arith))
              (eq-or-lt_of_le (let z : s.first + s.size ≤ b + 1 = omega arith in z));
        })
        (all o m (omega arith)
        (picks_as (EndsIn q cs lo b) (Part 0) o
        (λ s a. record { eligible = a.eligible; from = a.from; to = inl a.to })
        (λ s a. record { eligible = a.eligible; from = a.from; to = ⊎_elim (λ i. i) (λ i. let j = i.1 in let k = a.eligible.some in absurd (let z : ⊥ = omega arith in z)) a.to })
        p))

  pub ends_none : (hi : ℕ) → Picks f (EndsIn q cs hi hi) None
  ends_none hi = record { chosen = λ s h. let e = h.to in let f = h.from in let z : ⊥ = omega arith in z; exact = tt }

  -- No stretch ends at a barred letter.
  pub barred_passed : (lo a b : ℕ) (o : Option Candidate) → AllBarred cs a b → Picks f (EndsIn q cs lo a) o → a ≤ b → 0 < q.kmer → Picks f (EndsIn q cs lo b) o
  barred_passed lo a b o B P h some =
      picks_as (EndsIn q cs lo a) (EndsIn q cs lo b) o
      (λ s e. record { eligible = e.eligible; from = e.from; to = let t = e.to in omega arith })
      (λ s e.
      ⊎_elim
      (λ (l : a < s.first + s.size).
      let t = e.to in
      let z = e.eligible.some in
      let x : ℕ = s.first + s.size - 1 in
      let free = e.eligible.free x (omega arith) (omega arith) in
      let barred = B.at x (omega arith) (omega arith) in
      absurd (let w : ⊥ = omega arith in w))
      (λ l. record { eligible = e.eligible; from = e.from; to = l })
      (lt_or_le a (s.first + s.size)))
      P
