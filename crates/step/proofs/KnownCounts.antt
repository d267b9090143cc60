-- What the window says of the scan counts (`KnownCounts`) stays true: when an entry leaves, joins without a find, is a find by extension, or ends a backward scan.
use Rattle.std.proofs.Common.{◌≡◌, refl, sym, ap, ◌∙◌, subst, Bool, true, false, not, true≢false, List, [], ◌∷◌, ◌++◌, ℕ, zero, suc, ◌-◌, ◌≤◌, ◌<◌, arith, length, get_or, drop, replicate, length-set, length-append, ℤ, pos, negsuc, eqb}
use lib.ListN.{length-replicate}
use lib.Seq.{drop-append-le}
use lib.IntN.{pos-ne-negsuc}
use borrow.Author.Tests.{ne_eqb}
use Rattle.floats.specs.Binary64.{zero64}
use Rattle.letters.specs.Place.{Place, ambiguous, plain, Below}
use Rattle.search.specs.declared.Carry.{Carry}
use Rattle.search.specs.declared.Scanned.{Scanned}
use Rattle.scans.specs.Setup.{Setup, kmers}
use Rattle.scans.specs.Counts.{raise, lower, cleared}
use Rattle.scans.specs.Terms.Counted.{Counted, Touched}
use Rattle.scans.specs.Scans.{Find, none, at, Outcome, dust_backward}
use Rattle.scans.specs.Terms.Window.{find_of}
use Rattle.search.specs.Terms.Carry.{Carried, counts_left, Answers, CarriesOn}
use Rattle.scans.proofs.Counting.{below_right, raise_counted}
use Rattle.scans.proofs.Touched.{touched_cleared, touched_none, counted_touched, touched_more, touched_raise, touched_lower, touched_part}
use Rattle.scans.proofs.ForwardScore.{forward_inside}
use Rattle.search.proofs.CarriedScan.{found_counted}
use Rattle.search.proofs.CertificateKept.{certified_left}
use Rattle.scans.proofs.Finds.{backward_facts}
use Rattle.step.specs.Step.{whole, counts_without, last_q_without}
use Rattle.step.specs.declared.window.Window.{Window}
use Rattle.step.specs.Terms.KnownCounts.{KnownCounts, ends, counts_less, carry_less, Passes, extended_of, answered_by}
use Rattle.step.specs.Terms.Finding.{last_q_by}
use Rattle.step.specs.Terms.Entering.{unread}

-- It depends on last_q, `live` and the carried scan alone.
pub known_same : {S : Setup} {q : List Place} {w w' : Window} {counts : List ℕ} → KnownCounts S q w counts
    → w'.last_q ≡ w.last_q → w'.live ≡ w.live → w'.carry ≡ w.carry → KnownCounts S q w' counts
known_same k a l c =
    record {
      clear = rw l k.clear;
      from = rw (l, a) k.from;
      inside = rw (l, a) k.inside;
      touched = rw (l, a) k.touched;
      live = rw (l, c) k.live;
      counted = rw (c, a) k.counted;
      carried = rw (c, a) k.carried;
    }

-- A window that says this of them.
abbrev says : ℤ → Bool → Carry → Window
says last live carry = record { sum = zero64; last_q = last; head = 0; len = 0; live = live; carry = carry }

no_sums : {S : Setup} {q : List Place} {j : ℕ} {c : Carry} → c.on ≡ false → Carried S q j c
no_sums off =
    record {
      sums = record { s_is = λ on. absurd (true≢false (sym on ∙ off)); best_is = λ on. absurd (true≢false (sym on ∙ off)) };
      certified = λ on. absurd (true≢false (sym on ∙ off));
    }

-- No scan count is above 0.
known_clear : {S : Setup} {q : List Place} {last : ℤ} {c : Carry} {counts : List ℕ} → counts ≡ cleared S → c.on ≡ false → KnownCounts S q (says last false c) counts
known_clear z off =
    record {
      clear = λ _. z;
      from = λ l. absurd (true≢false (sym l));
      inside = λ l. absurd (true≢false (sym l));
      touched = λ l. absurd (true≢false (sym l));
      live = λ on. absurd (true≢false (sym on ∙ off));
      counted = λ on. absurd (true≢false (sym on ∙ off));
      carried = no_sums off;
    }

-- Those of the places from j on were raised, and no scan is carried.
known_touched : {S : Setup} {q : List Place} {j : ℕ} {c : Carry} {counts : List ℕ} → j ≤ length q → Touched counts (drop j q) → c.on ≡ false → KnownCounts S q (says (pos j) true c) counts
known_touched l t off =
    record {
      clear = λ n. absurd (true≢false n);
      from = λ _. refl;
      inside = λ _. l;
      touched = λ _. t;
      live = λ _. refl;
      counted = λ on. absurd (true≢false (sym on ∙ off));
      carried = no_sums off;
    }

-- And a scan over them is carried.
known_counted : {S : Setup} {q : List Place} {j : ℕ} {c : Carry} {counts : List ℕ} → j ≤ length q → Counted (kmers S) counts (drop j q) → Carried S q j c
    → KnownCounts S q (says (pos j) true c) counts
known_counted {S} {q} {j} {counts = counts} l n s =
    record {
      clear = λ n. absurd (true≢false n);
      from = λ _. refl;
      inside = λ _. l;
      touched = λ _. counted_touched (kmers S) counts (drop j q) n;
      live = λ _. refl;
      counted = λ _. n;
      carried = s;
    }

pub known_unread : {S : Setup} → KnownCounts S [] unread.window (cleared S)
known_unread = known_same (known_clear refl refl) refl refl refl

pub known_off : {S : Setup} {q : List Place} {w : Window} {counts : List ℕ} → KnownCounts S q w counts → w.live ≡ false → w.carry.on ≡ false
known_off {w = w} k n = go w.carry.on refl
  where
    go : (b : Bool) → w.carry.on ≡ b → w.carry.on ≡ false
    go true on = absurd (true≢false (sym (k.live on) ∙ n))
    go false off = off

-- ---- The oldest entry leaves.
lower_cleared : (S : Setup) (e : Place) → lower (cleared S) e ≡ cleared S
lower_cleared S ambiguous = refl
lower_cleared S (plain x) =
    let z = cleared S in
    touched_none (lower z (plain x)) (touched_lower z (plain x) [] (touched_cleared (kmers S) (plain x ∷ [])))
    ∙ ap (λ (n : ℕ). replicate n 0) (length-set z x (get_or z x 0 - 1) ∙ length-replicate (kmers S) 0)

zero_ne : (j : ℕ) → eqb 0 (suc j) ≡ false
zero_ne j = ne_eqb 0 (suc j) (λ (h : 0 ≡ suc j). let b : ⊥ = omega arith in b)

oldest : (S : Setup) (e : Place) (q : List Place) (last : ℤ) (live : Bool) (c : Carry) (counts : List ℕ) → Below (kmers S) (e ∷ q) → suc (length q) ≤ S.window_size → KnownCounts S (e ∷ q) (says last live c) counts
    → KnownCounts S q (says (last_q_without last) live (carry_less (ends live last) c)) (counts_less (ends live last) counts e)
oldest S e q last false c counts b l k = known_clear (k.clear refl) (known_off k refl)
oldest S e q (pos zero) true c counts b l k = known_touched (omega arith) (touched_lower counts e q (k.touched refl)) refl
oldest S e q (pos (suc j)) true c counts b within k =
    rw (zero_ne j)
    (record {
      clear = k.clear;
      from = λ _. refl;
      inside = λ l. omega (arith, k.inside l);
      touched = k.touched;
      live = k.live;
      counted = k.counted;
      carried = record { sums = k.carried.sums; certified = λ on. certified_left S e q b within j c.certificate (k.carried.certified on) };
    })
oldest S e q (negsuc j) true c counts b l k = absurd (pos-ne-negsuc 0 j (sym (k.from refl)))

pub known_oldest : {S : Setup} {e : Place} {q : List Place} {w w' : Window} {counts : List ℕ} → Below (kmers S) (e ∷ q) → suc (length q) ≤ S.window_size → KnownCounts S (e ∷ q) w counts
    → w'.last_q ≡ last_q_without w.last_q → w'.live ≡ w.live → w'.carry ≡ carry_less (ends w.live w.last_q) w.carry
    → KnownCounts S q w' (counts_less (ends w.live w.last_q) counts e)
known_oldest {S} {e} {q} {w} {counts = counts} b h k a l c = known_same (oldest S e q w.last_q w.live w.carry counts b h (known_same k refl refl refl)) a l c

-- The definition's counts without the oldest place.
less : (S : Setup) (e : Place) (last : ℤ) (live : Bool) (counts : List ℕ) → (live ≡ false → counts ≡ cleared S) → counts_less (ends live last) counts e ≡ counts_without last counts e
less S e (pos zero) false counts clear = rw (clear refl) (sym (lower_cleared S e))
less S e (pos zero) true counts clear = refl
less S e (pos (suc j)) false counts clear = refl
less S e (pos (suc j)) true counts clear = rw (zero_ne j)
less S e (negsuc j) false counts clear = refl
less S e (negsuc j) true counts clear = refl

pub known_less : {S : Setup} {q : List Place} {w : Window} {counts : List ℕ} (e : Place) → KnownCounts S q w counts
    → counts_less (ends w.live w.last_q) counts e ≡ counts_without w.last_q counts e
known_less {S} {w = w} {counts} e k = less S e w.last_q w.live counts k.clear

-- ---- The newest entry joins, and is no find.
module _ {S : Setup} {q : List Place} {w : Window} {counts : List ℕ} (k : KnownCounts S q w counts) where
  abbrev last_q : ℕ
  last_q = whole w.last_q

  more : (e : Place) → w.live ≡ true → drop last_q (q ++ e ∷ []) ≡ drop last_q q ++ e ∷ []
  more e l = drop-append-le last_q q (e ∷ []) (k.inside l)

  known_uncounted : (e : Place) → w.carry.on ≡ false → KnownCounts S (q ++ e ∷ []) w counts
  known_uncounted e off =
      record {
        clear = k.clear;
        from = k.from;
        inside = λ l. omega (arith, k.inside l, length-append q (e ∷ []));
        touched = λ l. subst (λ (z : List Place). Touched counts z) (sym (more e l)) (touched_more counts (drop last_q q) (e ∷ []) (k.touched l));
        live = k.live;
        counted = λ on. absurd (true≢false (sym on ∙ off));
        carried = no_sums off;
      }

  known_next : (e : Place) → Below (kmers S) (q ++ e ∷ []) → w.carry.on ≡ true → {c : Carry} {counts' : List ℕ} → CarriesOn S q e last_q w.carry c counts counts'
      → KnownCounts S (q ++ e ∷ []) (says (pos last_q) true c) counts'
  known_next e b on {c} {counts'} next =
      let l = k.live on in
      let n = k.counted on in
      known_counted (omega (arith, k.inside l, length-append q (e ∷ [])))
      (subst (λ (z : List ℕ). Counted (kmers S) z (drop last_q (q ++ e ∷ []))) (sym next.counts_are)
      (subst (λ (z : List Place). Counted (kmers S) (raise counts e) z) (sym (more e l)) (raise_counted (kmers S) counts (drop last_q q) e (below_right (kmers S) q (e ∷ []) b).0 n)))
      (next.carries on n k.carried)

pub known_passed : {S : Setup} (q : List Place) {q' : List Place} (e : Place) {w w' : Window} {counts counts' : List ℕ} → Below (kmers S) (q ++ e ∷ []) → q' ≡ q ++ e ∷ []
    → KnownCounts S q w counts → Passes S q' w w' counts counts' → KnownCounts S (q ++ e ∷ []) w' counts'
known_passed {S} q e {w} {w'} {counts} {counts'} b joins k p = go w.carry.on refl
  where
    go : (t : Bool) → w.carry.on ≡ t → KnownCounts S (q ++ e ∷ []) w' counts'
    go false off = rw ((p.off off).0, (p.off off).1) (known_uncounted k e off)
    go true on =
        let same = p.same on in
        let l = k.live on in
        known_same (known_next k e b on (p.on on q e joins)) (ap (λ (z : Window). z.last_q) same ∙ k.from l) (ap (λ (z : Window). z.live) same ∙ l) refl

-- ---- A find by extension.
pub known_extended : {S : Setup} {q : List Place} {w : Window} {counts : List ℕ} (x : ℕ) → KnownCounts S q w counts
    → KnownCounts S (q ++ plain x ∷ []) (last_q_by (extended_of w).window (at 0)) (raise counts (plain x))
known_extended {S} {q} {w} {counts} x k = known_same (known_touched (omega arith) (touched_raise counts q (plain x) (go w.live refl)) refl) refl refl refl
  where
    go : (t : Bool) → w.live ≡ t → Touched counts q
    go true l = touched_part counts (whole w.last_q) q (k.touched l)
    go false n = rw (k.clear n) (touched_cleared (kmers S) q)

-- ---- A backward scan's find leaves the counts of the places from it on.
abbrev LeftFrom : Setup → List Place → Find → List ℕ → Type 0
LeftFrom S q none counts = Unit {0}
LeftFrom S q (at j) counts = (j < length q) × Counted (kmers S) counts (drop j q)

left_from : (S : Setup) (q : List Place) → 0 < length q → Below (kmers S) q → LeftFrom S q (dust_backward S q).find (dust_backward S q).counts
left_from S q some b = backward_facts S q (LeftFrom S q) (λ _. tt) (λ j m e. (forward_inside S q j m some e, found_counted S q j m some e b))

pub known_answered : {S : Setup} {q : List Place} (w : Window) {r : Scanned} {counts' : List ℕ} → 0 < length q → Below (kmers S) q
    → Answers S q (dust_backward S q) r counts' → KnownCounts S q (last_q_by (answered_by w r.found r.carry).window (find_of r.found)) counts'
known_answered {S} {q} w {r} {counts'} some b a = go r.found refl
  where
    go : (n : ℕ) → r.found ≡ n → KnownCounts S q (last_q_by (answered_by w n r.carry).window (find_of n)) counts'
    go zero e =
        let o : Outcome = dust_backward S q in
        let f : o.find ≡ none = sym a.settles.find_is ∙ ap (λ (n : ℕ). find_of n) e in
        known_same (known_clear (a.settles.counts_are ∙ ap (λ (f : Find). counts_left S f o.counts) f) (a.ends e)) refl refl refl
    go (suc j) e =
        let o : Outcome = dust_backward S q in
        let f : o.find ≡ at j = sym a.settles.find_is ∙ ap (λ (n : ℕ). find_of n) e in
        let left : LeftFrom S q (at j) o.counts = subst (λ (f : Find). LeftFrom S q f o.counts) f (left_from S q some b) in
        let same : counts' ≡ o.counts = a.settles.counts_are ∙ ap (λ (f : Find). counts_left S f o.counts) f in
        known_same (known_counted (omega (arith, left.0)) (subst (λ (z : List ℕ). Counted (kmers S) z (drop j q)) (sym same) left.1) (a.begins j e).1) refl (ap not (ne_eqb (suc j) 0 (λ h. omega arith))) refl
