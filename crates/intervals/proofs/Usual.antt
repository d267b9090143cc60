-- The test of a list of the usual kind: it agrees with `Canonical n 1`; its walk over a slice.
use Rattle.std.proofs.Common.{ℕ, ◌+◌, ◌≤◌, ◌<◌, ◌≡◌, refl, ap, ◌∙◌, true, false, ◌&&◌, List, [], ◌∷◌, ◌↔◌, arith, ltb, leb, length, get_or, drop, drop_of_length-le}
use Rattle.intervals.specs.declared.Interval.{Interval}
use Rattle.intervals.specs.Interval.{interval, Ascending, Canonical, usual_entry, usual_from, usual}
use Rattle.intervals.proofs.Counted.{and_agrees, leb_agrees, ltb_agrees}
use Rattle.intervals.proofs.Slice.{list_next}

from_agrees : (n lo : ℕ) (is : List Interval) → (usual_from n lo is ≡ true) ↔ Ascending n 1 lo is
unfolding usual_from
from_agrees n lo [] = ((λ h. tt), (λ h. refl))
from_agrees n lo (i ∷ is) =
    let t =
    and_agrees (usual_entry n lo i.start i.end) (usual_from n (i.end + 1) is)
    (and_agrees (leb lo i.start) (ltb i.start i.end && leb i.end n) (leb_agrees lo i.start)
    (and_agrees (ltb i.start i.end) (leb i.end n) (ltb_agrees i.start i.end) (leb_agrees i.end n)))
    (from_agrees n (i.end + 1) is) in (
      (λ h. let u = t.0 h in (u.0.0, omega arith, u.0.1.1, u.1)),
      (λ h. t.1 ((h.0, (omega arith, h.2)), h.3)),
    )

pub usual_agrees : (n : ℕ) (is : List Interval) → (usual n is ≡ true) ↔ Canonical n 1 is
usual_agrees n is = from_agrees n 0 is

module _ (n lo : ℕ) (is : List Interval) (i : ℕ) where
  module _ (h : i < length is) where
    usual_next : usual_from n lo (drop i is)
        ≡ (usual_entry n lo (get_or is i (interval 0 0)).start (get_or is i (interval 0 0)).end
        && usual_from n ((get_or is i (interval 0 0)).end + 1) (drop (i + 1) is))
    unfolding usual_from
    usual_next = ap (λ (js : List Interval). usual_from n lo js) (list_next is i h)

    pub usual_go : usual_entry n lo (get_or is i (interval 0 0)).start (get_or is i (interval 0 0)).end ≡ true
        → usual_from n lo (drop i is) ≡ usual_from n ((get_or is i (interval 0 0)).end + 1) (drop (i + 1) is)
    usual_go g = usual_next ∙ rw g

    pub usual_stop : usual_entry n lo (get_or is i (interval 0 0)).start (get_or is i (interval 0 0)).end ≡ false
        → usual_from n lo (drop i is) ≡ false
    usual_stop g = usual_next ∙ rw g

  pub usual_end : length is ≤ i → usual_from n lo (drop i is) ≡ true
  unfolding usual_from
  usual_end h = rw (drop_of_length-le is {i = i} h)

pub ruleset of_usual = (usual_go, usual_stop, usual_end)
