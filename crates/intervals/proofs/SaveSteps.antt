-- The steps of `save_interval`: its loop over the ends, and a save to the list in the first entries of a slice.
use Rattle.std.proofs.Common.{ℕ, zero, suc, ◌+◌, ◌-◌, ◌≤◌, ◌<◌, min, max, ◌≡◌, refl, sym, ap, ◌∙◌, List, [], ◌∷◌, ◌++◌, ⊎_elim, arith, length, take, drop, get_or, set, length-append, drop_of_length-le, drop-cons, get_or-take, length-take-le, take-take}
use borrow.Author.Tests.{le-leb, lt-leb}
use Rattle.buffers.specs.Fill.{put}
use Rattle.buffers.proofs.Put.{put_store}
use Rattle.intervals.specs.declared.Interval.{Interval}
use Rattle.intervals.specs.Interval.{interval}
use Rattle.intervals.specs.Save.{staying, absorb, save_at, save}
use Rattle.intervals.proofs.Order.{lt_or_le}

module _ (is : List Interval) (s : ℕ) where
  pub staying_less : (m : ℕ) → 0 < m → s ≤ (get_or is (m - 1) (interval 0 0)).end → staying is s (m - 1) ≡ staying is s m
  unfolding staying
  staying_less zero h l = absurd (omega arith)
  staying_less (suc m) h l =
      let q : suc m - 1 ≡ m = omega arith in
      let l' : s ≤ (get_or is m (interval 0 0)).end = rw q at l in
      rw (q, le-leb s (get_or is m (interval 0 0)).end l')

  pub staying_all : (m : ℕ) → 0 < m → (get_or is (m - 1) (interval 0 0)).end < s → m - 1 + 1 ≡ staying is s m
  unfolding staying
  staying_all zero h l = absurd (omega arith)
  staying_all (suc m) h l =
      let q : suc m - 1 ≡ m = omega arith in
      let l' : (get_or is m (interval 0 0)).end < s = rw q at l in
      rw (lt-leb s (get_or is m (interval 0 0)).end l') (omega arith)

  pub staying_none : (m : ℕ) → m ≤ 0 → staying is s m ≡ 0
  unfolding staying
  staying_none zero h = refl
  staying_none (suc m) h = absurd (omega arith)

pub ruleset of_staying = (staying_less, staying_all, staying_none)

staying_le : (is : List Interval) (s m : ℕ) → staying is s m ≤ m
unfolding staying
staying_le is s zero = omega arith
staying_le is s (suc m) =
    let end : ℕ = (get_or is m (interval 0 0)).end in
    ⊎_elim (λ gt. rw (lt-leb s end gt) (omega arith)) (λ le. rw (le-leb s end le) (omega (arith, staying_le is s m))) (lt_or_le end s)

-- The list of the first c entries of a slice xs, of which the first k stay.
module _ (xs : List Interval) (c s e k : ℕ) (fits : c ≤ length xs) (q : k ≡ staying (take c xs) s (length (take c xs))) where
  abbrev list : List Interval
  list = take c xs

  pub staying_within : k ≤ c
  staying_within = omega (arith, staying_le list s (length (take c xs)), length-take-le c xs fits)

  save_list : save list s e ≡ save_at k list s e
  unfolding save
  save_list = rw (← q)

  first_stay : take k list ≡ take k xs
  first_stay = take-take k c xs staying_within

  pub save_length : length (save list s e) ≡ k + 1
  save_length =
      let w = staying_within in
      ap (λ (is : List Interval). length is) (save_list ∙ ap (λ (is : List Interval). is ++ (absorb (drop k list) s e ∷ [])) first_stay)
      ∙ length-append (take k xs) (absorb (drop k list) s e ∷ [])
      ∙ omega (arith, length-take-le k xs (omega arith))

  saved : k < length xs → {i : Interval} → i ≡ absorb (drop k list) s e → set xs k i ≡ put (save list s e) xs
  saved h {i} a =
      put_store k i xs h
      ∙ ap (λ (is : List Interval). put (is ++ (i ∷ [])) xs) (sym first_stay)
      ∙ ap (λ (j : Interval). put (take k list ++ (j ∷ [])) xs) a
      ∙ ap (λ (is : List Interval). put is xs) (sym save_list)

  pub save_absorbs : k < c → {s' e' : ℕ} → s' ≡ min s (get_or xs k (interval 0 0)).start → e' ≡ max e (get_or xs k (interval 0 0)).end
      → set xs k (interval s' e') ≡ put (save list s e) xs
  save_absorbs h {s'} {e'} a b =
      let t = length-take-le c xs fits in
      let d : drop k list ≡ get_or list k (interval 0 0) ∷ drop (suc k) list = drop-cons list k (interval 0 0) (omega arith) in
      saved (omega arith) {i = interval s' e'} (rw (d, get_or-take c xs k (interval 0 0) h, a, b))

  pub save_appends : k < length xs → c ≤ k → set xs k (interval s e) ≡ put (save list s e) xs
  save_appends h g =
      let t = length-take-le c xs fits in
      saved h {i = interval s e} (rw (drop_of_length-le list {i = k} (omega arith)))

pub ruleset of_save = (save_length, save_absorbs, save_appends)
