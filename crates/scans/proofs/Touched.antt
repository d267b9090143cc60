-- Counts that only the places of a list can have raised (`Touched`): what a scan, a place that joins and one that leaves make of them, and that clearing the counts
-- of all the places clears all (`touched_clear`, `touched_none`).
use Rattle.std.proofs.Common.{◌≡◌, refl, sym, subst, ℕ, zero, suc, ◌+◌, ◌-◌, ◌/◌, ◌%◌, ◌≤◌, arith, Bool, true, false, cond, List, [], ◌∷◌, ◌++◌, append-nil, length, get_or, set, drop, replicate, get_or-set_other, ext_get_or, eqb, Float}
use lib.ListN.{length-replicate}
use lib.Seq.{append_snoc}
use lib.Ieee.{lt}
use borrow.Author.Tests.{eqb-true, eqb-false}
use Rattle.floats.specs.Arithmetic.{◌⊕◌, ◌⊖◌}
use Rattle.floats.specs.Binary64.{slack}
use Rattle.letters.specs.Place.{Place, ambiguous, plain}
use Rattle.letters.specs.Terms.Entry.{decode}
use Rattle.scans.specs.Setup.{Setup, f_at, kmers}
use Rattle.scans.specs.Counts.{hit, count, raise, lower, cleared}
use Rattle.scans.specs.Scans.{value, ForwardSums, forward_start, forward_judged, Forward, forward_from, dust_forward}
use Rattle.scans.specs.Terms.Counted.{Touched}
use Rattle.scans.proofs.Test.{by_test}
use Rattle.scans.proofs.Counting.{hit_self, hit_other, count_append, count_snoc, Counted, cleared_counted}

pub touched_cleared : (m : ℕ) (es : List Place) → Touched (replicate m 0) es
touched_cleared m es = record { at_most = λ x. omega (arith, (cleared_counted m).counted x) }

pub touched_none : (counts : List ℕ) → Touched counts [] → counts ≡ replicate (length counts) 0
touched_none counts t =
    ext_get_or 0 counts (replicate (length counts) 0) (sym (length-replicate (length counts) 0)) (λ i h. omega (arith, t.at_most i, (cleared_counted (length counts)).counted i))

pub counted_touched : (m : ℕ) (counts : List ℕ) (es : List Place) → Counted m counts es → Touched counts es
counted_touched m counts es c = record { at_most = λ x. omega (arith, c.counted x) }

set_self : (l : List ℕ) (x v : ℕ) → get_or (set l x v) x 0 ≤ v
set_self [] x v = omega arith
set_self (a ∷ l) zero v = omega arith
set_self (a ∷ l) (suc x) v = set_self l x v

-- A count that is set changes for its k-mer alone.
module _ (counts : List ℕ) (es es' : List Place) (x v : ℕ) (t : Touched counts es) (same : (y : ℕ) → (y ≡ x → ⊥) → count y es ≤ count y es') (most : v ≤ count x es') where
  set_at : (y : ℕ) (b : Bool) → eqb y x ≡ b → get_or (set counts x v) y 0 ≤ count y es'
  set_at y true e = subst (λ (z : ℕ). get_or (set counts x v) z 0 ≤ count z es') (sym (eqb-true y x e)) (omega (arith, set_self counts x v))
  set_at y false e = let n = eqb-false y x e in omega (arith, get_or-set_other counts x y v 0 n, t.at_most y, same y n)

  touched_set : Touched (set counts x v) es'
  touched_set = record { at_most = λ y. set_at y (eqb y x) refl }

-- Places join uncounted, or one counted.
pub touched_more : (counts : List ℕ) (es fs : List Place) → Touched counts es → Touched counts (es ++ fs)
touched_more counts es fs t = record { at_most = λ x. omega (arith, t.at_most x, count_append x es fs) }

pub touched_raise : (counts : List ℕ) (es : List Place) (e : Place) → Touched counts es → Touched (raise counts e) (es ++ e ∷ [])
touched_raise counts es ambiguous t = touched_more counts es (ambiguous ∷ []) t
touched_raise counts es (plain x) t =
    touched_set counts es (es ++ plain x ∷ []) x (get_or counts x 0 + 1) t (λ y _. omega (arith, count_snoc y es (plain x))) (omega (arith, t.at_most x, count_snoc x es (plain x), hit_self x))

-- The oldest place leaves, and its count falls; or it is set to 0.
pub touched_lower : (counts : List ℕ) (e : Place) (es : List Place) → Touched counts (e ∷ es) → Touched (lower counts e) es
touched_lower counts ambiguous es t = record { at_most = λ x. omega (arith, t.at_most x) }
touched_lower counts (plain x) es t =
    touched_set counts (plain x ∷ es) es x (get_or counts x 0 - 1) t (λ y n. omega (arith, hit_other y x n)) (omega (arith, t.at_most x, hit_self x))

decode_hit : (e y : ℕ) → (y ≡ e / 2 → ⊥) → hit y (decode e) ≡ 0
unfolding decode
decode_hit e y n = go (eqb (e % 2) 0)
  where
    go : (b : Bool) → hit y (cond b (plain (e / 2)) ambiguous) ≡ 0
    go true = hit_other y (e / 2) n
    go false = refl

pub touched_clear : (counts : List ℕ) (e : ℕ) (es : List Place) → Touched counts (decode e ∷ es) → Touched (set counts (e / 2) 0) es
touched_clear counts e es t = touched_set counts (decode e ∷ es) es (e / 2) 0 t (λ y n. omega (arith, decode_hit e y n)) (omega arith)

-- A part of the places.
pub touched_part : (counts : List ℕ) (j : ℕ) (es : List Place) → Touched counts (drop j es) → Touched counts es
touched_part counts zero es t = t
touched_part counts (suc j) [] t = t
touched_part counts (suc j) (e ∷ es) t = let r = touched_part counts j es t in record { at_most = λ x. omega (arith, r.at_most x) }

-- A forward scan over the places es, after those seen, however far it goes.
forward_touched : (S : Setup) (limit : Float) (seen es : List Place) (l i : ℕ) (a : ForwardSums) (counts : List ℕ) → Touched counts seen → Touched (forward_from S limit es l i a counts).counts (seen ++ es)
unfolding forward_from
forward_touched S limit seen [] l i a counts t = subst (λ (z : List Place). Touched counts z) (sym (append-nil seen)) t
forward_touched S limit seen (e ∷ es) l i a counts t =
    let s : Float = a.s ⊕ (value S counts e ⊖ S.score_threshold) in
    let sl : Float = s ⊖ f_at S l in
    let a' : ForwardSums = forward_judged a s sl i in
    let t' = touched_raise counts seen e t in
    by_test (λ (r : Forward). Touched r.counts (seen ++ e ∷ es)) (lt limit sl) (record { sums = a'; counts = raise counts e }) (forward_from S limit es (l + 1) (i + 1) a' (raise counts e))
    (λ _. subst (λ (z : List Place). Touched (raise counts e) z) (append_snoc seen e es) (touched_more (raise counts e) (seen ++ e ∷ []) es t'))
    (λ _. subst (λ (z : List Place). Touched (forward_from S limit es (l + 1) (i + 1) a' (raise counts e)).counts z) (append_snoc seen e es)
    (forward_touched S limit (seen ++ e ∷ []) es (l + 1) (i + 1) a' (raise counts e) t'))

pub dust_forward_touched : (S : Setup) (q : List Place) (j : ℕ) (m : Float) → Touched (dust_forward S q j m).counts (drop j q)
unfolding dust_forward
dust_forward_touched S q j m = forward_touched S (m ⊕ slack) [] (drop j q) 1 j forward_start (cleared S) (touched_cleared (kmers S) [])
