-- The score of a stretch as what each of its places adds by its order, and how orders change with a place more.
use Rattle.std.proofs.Common.{◌≡◌, ℕ, zero, suc, ◌+◌, ◌*◌, ◌^◌, ◌<◌, ◌≤◌, List, [], ◌∷◌, ◌++◌, length, get_or, drop, ℤ, pos, negsuc, ◌+ℤ◌, ◌-ℤ◌, ◌*ℤ◌, refl, sym, ap, ap₂, ◌∙◌, arith, ⊎_elim, eq-or-lt_of_le}
use Rattle.floats.proofs.Whole.{Is, is_as, is_sub}
use Rattle.letters.specs.Place.{Place, ambiguous, plain, places, BelowAt, Below}
use Rattle.letters.proofs.Places.{places_below}
use Rattle.scans.specs.Counts.{count}
use Rattle.scans.specs.Score.{ln_sums, stretch}
use Rattle.scans.proofs.Counting.{below_drop, below_take}
use Rattle.scans.proofs.Exact.{adds, sums_none, sums_cons, sums_snoc}
use Rattle.strongest.specs.Strongest.{entry}
use Rattle.strongest.proofs.Order.{is_pos, difference_is}
use Rattle.strongest_list.specs.Stretches.{Stretch, score_in}
use Rattle.strongest_list.specs.Mirrored.{Rises}

pub rises_to : (table : List ℕ) (w i j : ℕ) → Rises table w → 0 < i → i ≤ j → j ≤ w → get_or table i 0 ≤ get_or table j 0
rises_to table w i zero R h k l = absurd (let z : ⊥ = omega arith in z)
rises_to table w i (suc j) R h k l =
    ⊎_elim
    (λ e. omega (arith, ap (λ (n : ℕ). get_or table n 0) e))
    (λ m. omega (arith, rises_to table w i j R h (omega arith) (omega arith), R.step j (omega arith) (omega arith)))
    (eq-or-lt_of_le k)

-- What a place adds before the places q: the ln entry of its order, which is how often its k-mer stands in it and them; 0 if ambiguous.
abbrev pub worth : List ℕ → List Place → Place → ℕ
worth ln q ambiguous = 0
worth ln q (plain x) = get_or ln (suc (count x q)) 0

-- What all add, each before those after it.
abbrev pub gain : List ℕ → List Place → ℕ
gain ln [] = 0
gain ln (e ∷ q) = worth ln q e + gain ln q

adds_worth : (ln : List ℕ) (q : List Place) (e : Place) → adds (entry ln) q e ≡ pos (worth ln q e)
adds_worth ln q ambiguous = refl
adds_worth ln q (plain x) = refl

pub gain_is : (ln : List ℕ) (m : ℕ) (q : List Place) → Below m q → ln_sums (entry ln) m q ≡ pos (gain ln q)
gain_is ln m [] h = sums_none (entry ln) m
gain_is ln m (e ∷ q) h =
    sums_cons (entry ln) m q e h.0
    ∙ ap₂ (λ (x y : ℤ). x +ℤ y) (gain_is ln m q h.1) (adds_worth ln q e)
    ∙ ap pos (let z : gain ln q + worth ln q e ≡ worth ln q e + gain ln q = omega arith in z)

abbrev pub natural : ℤ → ℕ
natural (pos n) = n
natural (negsuc n) = 0

below_snoc : (m : ℕ) (q : List Place) (e : Place) → Below m q → BelowAt m e → Below m (q ++ (e ∷ []))
below_snoc m [] e h k = (k, tt)
below_snoc m (x ∷ q) e h k = (h.0, below_snoc m q e h.1 k)

-- A place at the new end adds by its order before those before it.
pub gain_snoc : (ln : List ℕ) (m : ℕ) (q : List Place) (e : Place) → Below m q → BelowAt m e → gain ln (q ++ (e ∷ [])) ≡ gain ln q + worth ln q e
gain_snoc ln m q e h k =
    ap natural
    (sym (gain_is ln m (q ++ (e ∷ [])) (below_snoc m q e h k))
    ∙ sums_snoc (entry ln) m q e k
    ∙ ap₂ (λ (x y : ℤ). x +ℤ y) (gain_is ln m q h) (adds_worth ln q e))

-- ---- The score of a stretch of `size` places.
pub stretch_below : (k : ℕ) (cs : List ℕ) (first size : ℕ) → Below (4 ^ k) (stretch (places k cs) first size)
stretch_below k cs first size = below_take (4 ^ k) size (drop first (places k cs)) (below_drop (4 ^ k) first (places k cs) (places_below k cs))

pub score_is : (k t : ℕ) (ln f cs : List ℕ) (s : Stretch) → length (stretch (places k cs) s.first s.size) ≡ s.size
    → Is (score_in k t ln f cs s) (gain ln (stretch (places k cs) s.first s.size)) (s.size * t + get_or f s.size 0)
unfolding score_in
score_is k t ln f cs s long =
    let q : List Place = stretch (places k cs) s.first s.size in
    let g : ℕ = gain ln q in
    let e : ln_sums (entry ln) (4 ^ k) q ≡ pos g = gain_is ln (4 ^ k) q (stretch_below k cs s.first s.size) in
    rw (e, long)
    (let z : ℤ = pos g -ℤ pos s.size *ℤ pos t in
    is_as (z -ℤ pos (get_or f s.size 0)) (g + 0) (s.size * t + get_or f s.size 0) g (s.size * t + get_or f s.size 0) (omega arith)
    (is_sub z (pos (get_or f s.size 0)) g (s.size * t) (get_or f s.size 0) 0 (difference_is g (s.size * t)) (is_pos (get_or f s.size 0))))
