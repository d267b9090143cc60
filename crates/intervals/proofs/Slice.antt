-- A list of intervals in a slice: its parts, one that lies inside n letters, and one written after another.
use Rattle.std.proofs.Common.{ℕ, zero, suc, ◌+◌, ◌≤◌, ◌<◌, ◌≡◌, ap₂, ◌∙◌, List, [], ◌∷◌, ◌++◌, arith, add-one, length, take, drop, get_or, length-append, drop-cons}
use Rattle.buffers.specs.Fill.{put, put_at}
use Rattle.buffers.proofs.Put.{take_put, put_next}
use Rattle.intervals.specs.declared.Interval.{Interval}
use Rattle.intervals.specs.Interval.{interval, Wrote}
use Rattle.intervals.specs.Terms.Bounds.{Inside}

pub list_next : (is : List Interval) (i : ℕ) → i < length is → drop i is ≡ get_or is i (interval 0 0) ∷ drop (i + 1) is
list_next is i h = rw add-one (drop-cons is i (interval 0 0) h)

-- An interval of a list inside n letters.
pub inside_at : (n : ℕ) (is : List Interval) (i : ℕ) → Inside n is → i < length is
    → ((get_or is i (interval 0 0)).start ≤ n) × ((get_or is i (interval 0 0)).end ≤ n)
inside_at n [] i h l = absurd (let b : ⊥ = omega arith in b)
inside_at n (j ∷ is) zero h l = (h.0, h.1)
inside_at n (j ∷ is) (suc i) h l = inside_at n is i h.2 (omega arith)

-- The first entries hold the list that was written.
pub wrote_list : {is : List Interval} {xs xs' : List Interval} {c : ℕ} → Wrote is xs xs' c → take c xs' ≡ is
wrote_list {is} {xs} {xs'} {c} w = ap₂ (λ (k : ℕ) (d : List Interval). take k d) w.count_is w.list_is ∙ take_put is xs

pub saved_list : {is : List Interval} (xs : List Interval) {xs' : List Interval} {c : ℕ} → xs' ≡ put is xs → c ≡ length is → take c xs' ≡ is
saved_list {is} xs p q = ap₂ (λ (k : ℕ) (d : List Interval). take k d) q p ∙ take_put is xs

-- A list written where another ends.
pub wrote_next : {is : List Interval} (js : List Interval) {xs xs' xs'' : List Interval} {c c' : ℕ} → Wrote is xs xs' c
    → xs'' ≡ put_at c js xs' → c' ≡ c + length js → Wrote (is ++ js) xs xs'' c'
wrote_next {is} js {xs} {xs'} {xs''} {c} {c'} w p q =
    record {
      list_is =
          p ∙ ap₂ (λ (k : ℕ) (d : List Interval). put_at k js d) w.count_is w.list_is ∙ put_next is js xs;
      count_is = q ∙ omega (arith, w.count_is, length-append is js);
    }
