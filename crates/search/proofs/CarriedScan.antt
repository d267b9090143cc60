-- The carried scan: one place more (`carried_next`), the find that it tells without a forward scan (`carried_forward`), and how a find begins it (`found_carried`). For any float bits.
use Rattle.std.proofs.Common.{◌≡◌, refl, sym, ap, ap₂, ◌∙◌, subst, Option, None, ℕ, ◌+◌, ◌-◌, ◌≤◌, ◌<◌, arith, Bool, true, false, cond, not, List, [], ◌∷◌, ◌++◌, append-nil, length, drop, length-append, length-drop, ext_get_or, T, T_not, Float}
use lib.Seq.{append_snoc, drop-append-le}
use lib.Ieee.{inf, le, lt}
use Rattle.floats.specs.Arithmetic.{◌⊕◌, ◌⊖◌}
use Rattle.floats.specs.Binary64.{zero64, slack}
use Rattle.floats.proofs.Tests.{le_sure}
use Rattle.floats.proofs.Sums.{zero_near}
use Rattle.letters.specs.Place.{Place, ambiguous, plain, BelowAt, Below}
use Rattle.search.specs.declared.Carry.{Carry}
use Rattle.search.specs.declared.Certificate.{Certificate}
use Rattle.scans.specs.Setup.{Setup, ln_at, f_at, kmers}
use Rattle.scans.specs.Counts.{raise, cleared}
use Rattle.scans.specs.Scans.{value, ForwardSums, forward_start, forward_judged, Forward, forward_from, dust_forward}
use Rattle.scans.specs.Terms.Window.{counted_value, CountsEntry}
use Rattle.scans.specs.Terms.Parts.{whole_forward}
use Rattle.search.specs.Terms.Certified.{Certified}
use Rattle.search.specs.Terms.Carry.{Summed, Carried, newest_score}
use Rattle.scans.proofs.Test.{by_test}
use Rattle.scans.proofs.Values.{raised_value}
use Rattle.scans.proofs.Counting.{hit_self, count_snoc, below_left, below_right, below_drop, Counted, raise_counted, cleared_counted}
use Rattle.scans.proofs.ForwardScore.{forward_inside}
use Rattle.scans.proofs.WholeScan.{sum, score, judged, whole, whole_step, never_above, unstopped, reached, Alike, judged_s, judged_best, index_free}

pub counted_unique : (m : ℕ) (counts counts' : List ℕ) (q : List Place) → Counted m counts q → Counted m counts' q → counts ≡ counts'
counted_unique m counts counts' q c d = ext_get_or 0 counts counts' (c.long ∙ sym d.long) (λ i h. c.counted i ∙ sym (d.counted i))

-- Without a certificate.
pub uncertified : {S : Setup} {q : List Place} {j : ℕ} {c : Carry} → Summed S (drop j q) c → c.certificate ≡ None → Carried S q j c
uncertified {S} {q} {j} sums off = record { sums = sums; certified = λ _. subst (λ (d : Option Certificate). Certified S q j d) (sym off) tt }

module _ (S : Setup) where
  whole_counted : (seen es : List Place) (l i : ℕ) (a : ForwardSums) (counts : List ℕ) → Below (kmers S) es → Counted (kmers S) counts seen → Counted (kmers S) (whole S es l i a counts).counts (seen ++ es)
  unfolding forward_from
  whole_counted seen [] l i a counts b c = subst (λ (z : List Place). Counted (kmers S) counts z) (sym (append-nil seen)) c
  whole_counted seen (e ∷ es) l i a counts b c =
      subst (λ (w : Forward). Counted (kmers S) w.counts (seen ++ e ∷ es)) (sym (whole_step S e es l i a counts))
      (subst (λ (z : List Place). Counted (kmers S) (whole S es (l + 1) (i + 1) (judged S a counts e l i) (raise counts e)).counts z) (append_snoc seen e es)
      (whole_counted (seen ++ e ∷ []) es (l + 1) (i + 1) (judged S a counts e l i) (raise counts e) b.1 (raise_counted (kmers S) counts seen e b.0 c)))

  pub whole_forward_counted : (es : List Place) → Below (kmers S) es → Counted (kmers S) (whole_forward S es).counts es
  whole_forward_counted es b = whole_counted [] es 1 0 forward_start (cleared S) b (cleared_counted (kmers S))

zero_self : T (le zero64 zero64)
zero_self = le_sure zero_near zero_near (omega arith)

-- ---- One place more: its value is added, and a score as high as the best is the new best. `counts` are those of the places before, and d is the new certificate.
abbrev pub carried_on : Setup → ℕ → List ℕ → Place → Carry → Option Certificate → Carry
carried_on S l counts e c d =
    let sl : Float = newest_score S l counts e c in
    record { on = c.on; s = c.s ⊕ (value S counts e ⊖ S.score_threshold); best = cond (le c.best sl) sl c.best; certificate = d }

module _ (S : Setup) (es : List Place) (e : Place) where
  abbrev W : Forward
  W = whole_forward S es

  whole_snoc : whole_forward S (es ++ e ∷ []) ≡ record { sums = judged S W.sums W.counts e (length es + 1) (length es); counts = raise W.counts e }
  unfolding forward_from
  whole_snoc =
      unstopped S (inf false) es (e ∷ []) 1 0 (length es + 1) (length es) forward_start (cleared S) (omega arith) (omega arith) zero_self
      (subst (λ (b : Bool). T (not b)) (sym (never_above W.sums.best)) tt)
      ∙ whole_step S e [] (length es + 1) (length es) W.sums W.counts

  module _ (c : Carry) (counts : List ℕ) (k : Summed S es c) (b : Below (kmers S) es) (n : Counted (kmers S) counts es) where
    whole_counts : W.counts ≡ counts
    whole_counts = counted_unique (kmers S) W.counts counts es (whole_forward_counted S es b) n

    pub carried_next : (d : Option Certificate) → Summed S (es ++ e ∷ []) (carried_on S (length es + 1) counts e c d)
    carried_next d =
        record {
          s_is = λ on. ap (λ (w : Forward). w.sums.s) whole_snoc ∙ judged_s S W.sums (sum S W.sums W.counts e) (score S W.sums W.counts e (length es + 1)) (length es) ∙ rw (k.s_is on, whole_counts);
          best_is = λ on. ap (λ (w : Forward). w.sums.best) whole_snoc ∙ judged_best S W.sums (sum S W.sums W.counts e) (score S W.sums W.counts e (length es + 1)) (length es) ∙ rw (k.s_is on, k.best_is on, whole_counts);
        }

-- The code's step: v is the value of the counted place.
pub carried_step : (S : Setup) (l : ℕ) (e : Place) (c : Carry) (d : Option Certificate) (counts counts' : List ℕ) (v : Float) → CountsEntry S.ln counts e v counts' → BelowAt (length counts) e → (t : Bool)
    → le c.best (c.s ⊕ (v ⊖ S.score_threshold) ⊖ f_at S l) ≡ t
    → record { on = c.on; s = c.s ⊕ (v ⊖ S.score_threshold); best = cond t (c.s ⊕ (v ⊖ S.score_threshold) ⊖ f_at S l) c.best; certificate = d } ≡ carried_on S l counts e c d
carried_step S l e c d counts counts' v k b t h =
    let z : v ≡ value S counts e = k.value_is ∙ ap (λ (g : List ℕ). counted_value S.ln g e) k.counts_are ∙ raised_value S counts e b in
    rw (← h, z)

-- ---- The scan from index j of a window q whose newest place is e.
last_step : (S : Setup) (limit : Float) (e : Place) (l i : ℕ) (a : ForwardSums) (counts : List ℕ) → forward_from S limit (e ∷ []) l i a counts ≡ record { sums = judged S a counts e l i; counts = raise counts e }
unfolding forward_from
last_step S limit e l i a counts =
    by_test (λ (z : Forward). z ≡ record { sums = judged S a counts e l i; counts = raise counts e }) (lt limit (score S a counts e l)) (record { sums = judged S a counts e l i; counts = raise counts e })
    (record { sums = judged S a counts e l i; counts = raise counts e }) (λ _. refl) (λ _. refl)

judged_high : (a : ForwardSums) (s sl : Float) (i : ℕ) → T (le a.best sl) → forward_judged a s sl i ≡ record { s = s; best = sl; found = i + 1 }
judged_high a s sl i h =
    by_test (λ (z : ForwardSums). z ≡ record { s = s; best = sl; found = i + 1 }) (le a.best sl) (record { s = s; best = sl; found = i + 1 }) (record { s = s; best = a.best; found = a.found })
    (λ _. refl) (λ n. absurd (T_not (le a.best sl) n h))

-- The value of a place by the counts before it and by those with it.
counted_value_lem : (S : Setup) (m : ℕ) (es : List Place) (e : Place) (before after : List ℕ) → Counted m before es → Counted m after (es ++ e ∷ []) → value S before e ≡ counted_value S.ln after e
counted_value_lem S m es ambiguous before after c d = refl
counted_value_lem S m es (plain x) before after c d = ap (λ (z : ℕ). ln_at S z) (omega (arith, c.counted x, d.counted x, count_snoc x es (plain x), hit_self x))

module _ (S : Setup) (q₀ : List Place) (e : Place) (j : ℕ) (inside : j ≤ length q₀) (c : Carry) (on : c.on ≡ true) (k : Summed S (drop j q₀) c) (m : Float) (low : T (not (lt (m ⊕ slack) c.best))) where
  abbrev q : List Place
  q = q₀ ++ e ∷ []

  abbrev es : List Place
  es = drop j q₀

  abbrev Wj : Forward
  Wj = whole S es 1 j forward_start (cleared S)

  alike : Alike S Wj (whole_forward S es)
  alike = index_free S es 1 j 0 forward_start forward_start (cleared S) refl refl

  ends : dust_forward S q j m ≡ record { sums = judged S Wj.sums Wj.counts e (length es + 1) (length q₀); counts = raise Wj.counts e }
  unfolding dust_forward
  ends =
      let limit : Float = m ⊕ slack in
      let n : length es ≡ length q₀ - j = length-drop j q₀ in
      ap (λ (z : List Place). forward_from S limit z 1 j forward_start (cleared S)) (drop-append-le j q₀ (e ∷ []) inside)
      ∙ unstopped S limit es (e ∷ []) 1 j (length es + 1) (length q₀) forward_start (cleared S) (omega arith) (omega arith) zero_self
      (subst (λ (x : Float). T (not (lt limit x))) (sym (alike.best_same ∙ k.best_is on)) low)
      ∙ last_step S limit e (length es + 1) (length q₀) Wj.sums Wj.counts

  -- The counts of all the places from j on, and the newest's score.
  module _ (counts : List ℕ) (b : Below (kmers S) q) (n : Counted (kmers S) counts (drop j q)) (s sl : Float)
      (qs : s ≡ c.s ⊕ (counted_value S.ln counts e ⊖ S.score_threshold)) (ql : sl ≡ s ⊖ f_at S (length q - j)) (high : T (le c.best sl)) where
    more : drop j q ≡ es ++ e ∷ []
    more = drop-append-le j q₀ (e ∷ []) inside

    all_counted : Counted (kmers S) counts (es ++ e ∷ [])
    all_counted = subst (λ (z : List Place). Counted (kmers S) counts z) more n

    all_below : Below (kmers S) (es ++ e ∷ [])
    all_below = subst (λ (z : List Place). Below (kmers S) z) more (below_drop (kmers S) j q b)

    before_counted : Counted (kmers S) Wj.counts es
    before_counted = whole_counted S [] es 1 j forward_start (cleared S) (below_left (kmers S) es (e ∷ []) all_below) (cleared_counted (kmers S))

    sum_at : sum S Wj.sums Wj.counts e ≡ s
    sum_at =
        ap₂ (λ (x v : Float). x ⊕ (v ⊖ S.score_threshold)) (alike.s_same ∙ k.s_is on) (counted_value_lem S (kmers S) es e Wj.counts counts before_counted all_counted)
        ∙ sym qs

    score_at_lem : score S Wj.sums Wj.counts e (length es + 1) ≡ sl
    score_at_lem =
        let l : length es + 1 ≡ length q - j = omega (arith, length-drop j q₀, length-append q₀ (e ∷ [])) in
        ap₂ (λ (x : Float) (z : ℕ). x ⊖ f_at S z) sum_at l ∙ sym ql

    -- The forward scan from j is best at the newest place, and leaves these counts.
    pub carried_forward : dust_forward S q j m ≡ record { sums = record { s = s; best = sl; found = length q }; counts = counts }
    carried_forward =
        let long : length q₀ + 1 ≡ length q = omega (arith, length-append q₀ (e ∷ [])) in
        let best : Wj.sums.best ≡ c.best = alike.best_same ∙ k.best_is on in
        let raised = raise_counted (kmers S) Wj.counts es e (below_right (kmers S) es (e ∷ []) all_below).0 before_counted in
        let sums : judged S Wj.sums Wj.counts e (length es + 1) (length q₀) ≡ record { s = s; best = sl; found = length q₀ + 1 } =
        ap₂ (λ (x y : Float). forward_judged Wj.sums x y (length q₀)) sum_at score_at_lem
        ∙ judged_high Wj.sums s sl (length q₀) (subst (λ (x : Float). T (le x sl)) (sym best) high) in
        ends
        ∙ ap₂ (λ (x : ForwardSums) (y : List ℕ). record { sums = x; counts = y }) sums (counted_unique (kmers S) (raise Wj.counts e) counts (es ++ e ∷ []) raised all_counted)
        ∙ ap (λ (z : ℕ). record { sums = record { s = s; best = sl; found = z }; counts = counts }) long

-- ---- A find begins the carried scan: its forward scan from j was best at the newest place, so that nothing stopped it before.
module _ (S : Setup) (q : List Place) (j : ℕ) (m : Float) (some : 0 < length q) (found : (dust_forward S q j m).sums.found ≡ length q) where
  found_whole : dust_forward S q j m ≡ whole S (drop j q) 1 j forward_start (cleared S)
  unfolding dust_forward
  found_whole =
      let inside = forward_inside S q j m some found in
      reached S (m ⊕ slack) (drop j q) 1 j forward_start (cleared S) (omega arith) (found ∙ omega (arith, length-drop j q))

  found_alike : Alike S (dust_forward S q j m) (whole_forward S (drop j q))
  found_alike = subst (λ (w : Forward). Alike S w (whole_forward S (drop j q))) (sym found_whole) (index_free S (drop j q) 1 j 0 forward_start forward_start (cleared S) refl refl)

  pub found_carried : (c : Carry) → c.s ≡ (dust_forward S q j m).sums.s → c.best ≡ (dust_forward S q j m).sums.best → Summed S (drop j q) c
  found_carried c ps pb = record { s_is = λ _. sym (ps ∙ found_alike.s_same); best_is = λ _. sym (pb ∙ found_alike.best_same) }

  pub found_counted : Below (kmers S) q → Counted (kmers S) (dust_forward S q j m).counts (drop j q)
  found_counted b =
      subst (λ (w : Forward). Counted (kmers S) w.counts (drop j q)) (sym found_whole)
      (whole_counted S [] (drop j q) 1 j forward_start (cleared S) (below_drop (kmers S) j q b) (cleared_counted (kmers S)))
