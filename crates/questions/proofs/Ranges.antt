-- The intervals wholly within a range, and those with letters both inside and outside it, told by where two searches stand.
use Rattle.std.proofs.Common.{ℕ, zero, suc, ◌+◌, ◌-◌, ◌≤◌, ◌<◌, ◌≡◌, refl, sym, ap, subst, ◌∙◌, true, List, [], ◌∷◌, ◌⊎◌, inl, inr, ⊎_elim, ◌↔◌, arith, ltb, leb, length}
use Rattle.buffers.specs.Fill.{tabulate_from}
use Rattle.intervals.specs.declared.Interval.{Interval}
use Rattle.intervals.proofs.Counted.{and_agrees, leb_agrees, ltb_agrees}
use Rattle.intervals.proofs.Order.{lt_or_le}
use Rattle.questions.specs.Answers.{answer, none, indices, first_and_count, all_that, within, inside, partly}
use Rattle.questions.specs.Usual.{UsualKind}
use Rattle.questions.specs.Promised.{consecutive, over_ends}
use Rattle.intervals.specs.Terms.Leading.{ends_by}
use Rattle.questions.specs.Terms.Found.{begins_before, first_past, first_from}
use Rattle.questions.proofs.Ordered.{at, nonempty_at, apart_at}
use Rattle.questions.proofs.Searching.{leading_le, past_yes, past_no, from_yes, from_no}
use Rattle.questions.proofs.Indices.{indices_are, indices_two}

within_agrees : (a b : ℕ) (i : Interval) → (within a b i ≡ true) ↔ ((a ≤ i.start) × (i.end ≤ b))
within_agrees a b i = and_agrees (leb a i.start) (leb i.end b) (leb_agrees a i.start) (leb_agrees i.end b)

-- It has letters on both sides of x.
abbrev Over : ℕ → Interval → Type 0
Over x i = (i.start < x) × (x < i.end)

partly_agrees : (a b : ℕ) (i : Interval) → a < b → i.start < i.end → (partly a b i ≡ true) ↔ (Over a i ⊎ Over b i)
partly_agrees a b i h n =
    let t =
    and_agrees (ltb 0 (inside a b i)) (ltb (inside a b i) (i.end - i.start)) (ltb_agrees 0 (inside a b i))
    (ltb_agrees (inside a b i) (i.end - i.start)) in (
      (λ e. let g = t.0 e in ⊎_elim (λ l. inl (l, omega arith)) (λ l. inr (omega arith, omega arith)) (lt_or_le i.start a)),
      (λ e. t.1 (⊎_elim (λ l. (omega arith, omega arith)) (λ l. (omega arith, omega arith)) e)),
    )

length_consecutive : (f m : ℕ) → length (consecutive f m) ≡ m
unfolding tabulate_from
length_consecutive f zero = refl
length_consecutive f (suc m) = ap suc (length_consecutive (suc f) m)

counted_run : (f m : ℕ) → (first_and_count (consecutive f m)).second ≡ m
unfolding tabulate_from
counted_run f zero = refl
counted_run f (suc m) = ap suc (length_consecutive (suc f) m)

-- Indices that are at most two, the second m + 1 past the first.
abbrev pub Ends : List ℕ → ℕ → Type 0
Ends js m = ((first_and_count js).second ≤ 2) × (js ≡ over_ends ((first_and_count js).second) ((first_and_count js).first) m)

ends_two : (j k m : ℕ) → k ≡ j + m + 1 → Ends (j ∷ k ∷ []) m
ends_two j k m e = (omega arith, ap (λ (x : ℕ). j ∷ x ∷ []) e)

module _ (is : List Interval) (u : UsualKind is) where
  abbrev N : ℕ
  N = 2147483647

  -- An interval over x stands between the two indices for x; there is at most one.
  over_at : (x k : ℕ) → k < length is → Over x (at is k) ↔ ((first_past is x ≤ k) × (k < first_from is x))
  over_at x k h = (
    (λ o. (
      ⊎_elim (λ l. absurd (let e = past_yes is x u k l in omega arith)) (λ l. l) (lt_or_le k (first_past is x)),
      ⊎_elim (λ l. l) (λ l. absurd (let e = from_no is x u k l h in omega arith)) (lt_or_le k (first_from is x)),
    )),
    (λ o. (from_yes is x u k o.1, past_no is x u k o.0 h)),
  )

  pub past_from : (x : ℕ) → first_past is x ≤ first_from is x
  past_from x =
      ⊎_elim
      (λ (l : first_from is x < first_past is x). absurd
      (let h : first_from is x < length is = omega (arith, leading_le (ends_by x) is) in
      omega (arith, past_yes is x u (first_from is x) l, from_no is x u (first_from is x) (omega arith) h, nonempty_at N 0 is (first_from is x) u h)))
      (λ l. l)
      (lt_or_le (first_from is x) (first_past is x))

  pub from_next : (x : ℕ) → first_from is x ≤ first_past is x + 1
  from_next x =
      ⊎_elim
      (λ (l : first_past is x + 1 < first_from is x). absurd
      (let h : first_past is x + 1 < length is = omega (arith, leading_le (begins_before x) is) in
      omega (
        arith,
        from_yes is x u (first_past is x + 1) l,
        past_no is x u (first_past is x) (omega arith) (omega arith),
        apart_at N 0 is (first_past is x) (first_past is x + 1) u (omega arith) h,
      )))
      (λ l. l)
      (lt_or_le (first_past is x + 1) (first_from is x))

  pub past_rises : (a b : ℕ) → a ≤ b → first_past is a ≤ first_past is b
  past_rises a b h =
      ⊎_elim
      (λ (l : first_past is b < first_past is a). absurd
      (omega (arith, past_yes is a u (first_past is b) l, past_no is b u (first_past is b) (omega arith) (omega (arith, leading_le (ends_by a) is)))))
      (λ l. l)
      (lt_or_le (first_past is b) (first_past is a))

  -- First index and how many name all intervals within.
  pub within_run : (a b : ℕ) → indices (within a b) 0 is ≡ consecutive (first_from is a) (first_past is b - first_from is a)
  within_run a b =
      indices_are (within a b) is (first_from is a) (first_past is b - first_from is a)
      (omega (arith, leading_le (begins_before a) is, leading_le (ends_by b) is))
      (λ k h. (
        (λ e.
            let w = (within_agrees a b (at is k)).0 e in
            let f : first_from is a ≤ k = ⊎_elim (λ l. absurd (let z = from_yes is a u k l in omega arith)) (λ l. l) (lt_or_le k (first_from is a)) in
            let p : k < first_past is b = ⊎_elim (λ l. l) (λ l. absurd (let z = past_no is b u k l h in omega arith)) (lt_or_le k (first_past is b)) in
            (f, omega arith)),
        (λ e. (within_agrees a b (at is k)).1 (from_no is a u k e.0 h, past_yes is b u k (omega arith))),
      ))

  module _ (a b : ℕ) (h : a < b) where
    abbrev Pa : ℕ
    Pa = first_past is a

    abbrev Pb : ℕ
    Pb = first_past is b

    abbrev Fa : ℕ
    Fa = first_from is a

    abbrev Fb : ℕ
    Fb = first_from is b

    partly_at : (k : ℕ) → k < length is → (partly a b (at is k) ≡ true) ↔ (((Pa ≤ k) × (k < Fa)) ⊎ ((Pb ≤ k) × (k < Fb)))
    partly_at k l =
        let t = partly_agrees a b (at is k) h (nonempty_at N 0 is k u l).0 in (
          (λ e. ⊎_elim (λ o. inl ((over_at a k l).0 o)) (λ o. inr ((over_at b k l).0 o)) (t.0 e)),
          (λ e. t.1 (⊎_elim (λ o. inl ((over_at a k l).1 o)) (λ o. inr ((over_at b k l).1 o)) e)),
        )

    -- How the indices for a and b lie to each other.
    abbrev Lie : Type 0
    Lie = (Pa ≤ Fa) × (Fa ≤ Pa + 1) × (Pb ≤ Fb) × (Fb ≤ Pb + 1) × (Pa ≤ Pb) × (Fa ≤ length is) × (Fb ≤ length is)

    lie : Lie
    lie = (
      past_from a,
      from_next a,
      past_from b,
      from_next b,
      past_rises a b (omega arith),
      leading_le (begins_before a) is,
      leading_le (begins_before b) is,
    )

    pub partly_left : Pa < Fa → (Pb ≤ Pa) ⊎ (Fb ≤ Pb) → indices (partly a b) 0 is ≡ consecutive Pa 1
    partly_left l c =
        let z = lie in
        indices_are (partly a b) is Pa 1 (omega arith)
        (λ k m.
        let t = partly_at k m in (
          (λ e. ⊎_elim (λ o. (omega arith, omega arith)) (λ o. ⊎_elim (λ (q : Pb ≤ Pa). (omega arith, omega arith)) (λ (q : Fb ≤ Pb). absurd (omega arith)) c) (t.0 e)),
          (λ e. t.1 (inl (omega arith, omega arith))),
        ))

    pub partly_right : Fa ≤ Pa → Pb < Fb → indices (partly a b) 0 is ≡ consecutive Pb 1
    partly_right c l =
        let z = lie in
        indices_are (partly a b) is Pb 1 (omega arith)
        (λ k m.
        let t = partly_at k m in (
          (λ e. ⊎_elim (λ o. absurd (omega arith)) (λ o. (omega arith, omega arith)) (t.0 e)),
          (λ e. t.1 (inr (omega arith, omega arith))),
        ))

    pub partly_none : Fa ≤ Pa → Fb ≤ Pb → indices (partly a b) 0 is ≡ consecutive 0 0
    partly_none c l =
        let z = lie in
        indices_are (partly a b) is 0 0 (omega arith)
        (λ k m.
        let t = partly_at k m in (
          (λ e. absurd (⊎_elim (λ o. let b : ⊥ = omega arith in b) (λ o. let b : ⊥ = omega arith in b) (t.0 e))),
          (λ e. absurd (omega arith)),
        ))

    pub partly_two : Pa < Fa → Pa < Pb → Pb < Fb → indices (partly a b) 0 is ≡ Pa ∷ Pb ∷ []
    partly_two c l m =
        let z = lie in
        indices_two (partly a b) is Pa Pb l (omega arith)
        (λ k n.
        let t = partly_at k n in (
          (λ e. ⊎_elim (λ o. inl (omega arith)) (λ o. inr (omega arith)) (t.0 e)),
          (λ e. t.1 (⊎_elim (λ q. inl (omega arith, omega arith)) (λ q. inr (omega arith, omega arith)) e)),
        ))

    -- The second of two stands past the first and all those wholly within.
    ends_both : Pa < Fa → Pa < Pb → Pb < Fb → Ends (indices (partly a b) 0 is) ((all_that (within a b) is).second)
    ends_both l c m =
        let z = lie in
        let within_count : (all_that (within a b) is).second ≡ Pb - Fa =
        ap (λ (js : List ℕ). (first_and_count js).second) (within_run a b) ∙ counted_run Fa (Pb - Fa) in
        subst (λ (js : List ℕ). Ends js ((all_that (within a b) is).second)) (sym (partly_two l c m))
        (ends_two Pa Pb ((all_that (within a b) is).second) (omega arith))

    ends_left : (m : ℕ) → Pa < Fa → (Pb ≤ Pa) ⊎ (Fb ≤ Pb) → Ends (indices (partly a b) 0 is) m
    unfolding tabulate_from
    ends_left m l c = subst (λ (js : List ℕ). Ends js m) (sym (partly_left l c)) (omega arith, refl)

    ends_right : (m : ℕ) → Fa ≤ Pa → Pb < Fb → Ends (indices (partly a b) 0 is) m
    unfolding tabulate_from
    ends_right m c l = subst (λ (js : List ℕ). Ends js m) (sym (partly_right c l)) (omega arith, refl)

    ends_none : (m : ℕ) → Fa ≤ Pa → Fb ≤ Pb → Ends (indices (partly a b) 0 is) m
    unfolding tabulate_from
    ends_none m c l = subst (λ (js : List ℕ). Ends js m) (sym (partly_none c l)) (omega arith, refl)

    pub partly_ends : Ends (indices (partly a b) 0 is) ((all_that (within a b) is).second)
    partly_ends =
        let m = (all_that (within a b) is).second in
        ⊎_elim
        (λ (l : Pa < Fa). ⊎_elim
        (λ (r : Pb < Fb). ⊎_elim (λ (c : Pa < Pb). ends_both l c r) (λ (c : Pb ≤ Pa). ends_left m l (inl c)) (lt_or_le Pa Pb))
        (λ (r : Fb ≤ Pb). ends_left m l (inr r))
        (lt_or_le Pb Fb))
        (λ (l : Fa ≤ Pa). ⊎_elim (λ (r : Pb < Fb). ends_right m l r) (λ (r : Fb ≤ Pb). ends_none m l r) (lt_or_le Pb Fb))
        (lt_or_le Pa Fa)

pub run_some : (f m : ℕ) → 0 < m → first_and_count (consecutive f m) ≡ answer f m
unfolding tabulate_from
run_some f zero h = absurd (let b : ⊥ = omega arith in b)
run_some f (suc m) h = ap (λ (k : ℕ). answer f (suc k)) (length_consecutive (suc f) m)

pub run_none : (f m : ℕ) → m ≡ 0 → first_and_count (consecutive f m) ≡ none
unfolding tabulate_from
run_none f zero h = refl
run_none f (suc m) h = absurd (let b : ⊥ = omega arith in b)

pub run_named : (f m : ℕ) → consecutive f m ≡ consecutive ((first_and_count (consecutive f m)).first) ((first_and_count (consecutive f m)).second)
unfolding tabulate_from
run_named f zero = refl
run_named f (suc m) = ap (λ (k : ℕ). f ∷ consecutive (suc f) k) (sym (length_consecutive (suc f) m))
