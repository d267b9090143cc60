-- Saving to a canonical list keeps it canonical, and covers the list's letters and the new interval's where its end is past every end.
use Rattle.std.proofs.Common.{ℕ, zero, suc, ◌+◌, ◌≤◌, ◌<◌, min, max, ◌≡◌, refl, List, [], ◌∷◌, ◌⊎◌, inl, inr, ⊎_elim, ◌↔◌, arith, length, get_or}
use borrow.Author.Tests.{le-leb, lt-leb}
use Rattle.intervals.specs.declared.Interval.{Interval}
use Rattle.intervals.specs.Interval.{interval, Holds, Covers, Ascending, Canonical}
use Rattle.intervals.specs.Terms.Bounds.{EndsBelow}
use Rattle.intervals.specs.Save.{staying, save}
use Rattle.intervals.proofs.Order.{lt_or_le}
use Rattle.intervals.proofs.Covered.{first_apart}

staying_none : (is : List Interval) (s m : ℕ) → ((i : ℕ) → i < m → s ≤ (get_or is i (interval 0 0)).end) → staying is s m ≡ 0
unfolding staying
staying_none is s zero h = refl
staying_none is s (suc m) h =
    simp (le-leb s (get_or is m (interval 0 0)).end (h m (omega arith))) (staying_none is s m (λ i l. h i (omega arith)))

staying_first : (i : Interval) (is : List Interval) (s m : ℕ) → i.end < s → staying (i ∷ is) s (suc m) ≡ suc (staying is s m)
unfolding staying
staying_first i is s zero h = simp (lt-leb _ _ h)
staying_first i is s (suc m) h =
    let end : ℕ = (get_or is m (interval 0 0)).end in
    ⊎_elim
    (λ gt. simp (lt-leb s end gt))
    (λ le. simp (le-leb s end le) (staying_first i is s m h))
    (lt_or_le end s)

ends_above : (n k lo : ℕ) (is : List Interval) → Ascending n k lo is → (i : ℕ) → i < length is → lo ≤ (get_or is i (interval 0 0)).end
ends_above n k lo [] a i h = absurd (omega arith)
ends_above n k lo (j ∷ js) a zero h = omega arith
ends_above n k lo (j ∷ js) a (suc i) h = omega (arith, ends_above n k (j.end + 1) js a.3 i (omega arith))

-- One step of a save to an ascending list.
module _ (n k lo s e : ℕ) (i : Interval) (is : List Interval) (a : Ascending n k lo (i ∷ is)) where
  pub save_touch : s ≤ i.end → save (i ∷ is) s e ≡ interval (min s i.start) (max e i.end) ∷ []
  unfolding save
  save_touch h = rw (staying_none (i ∷ is) s (length (i ∷ is)) all)
    where
      all : (j : ℕ) → j < length (i ∷ is) → s ≤ (get_or (i ∷ is) j (interval 0 0)).end
      all zero l = h
      all (suc j) l = omega (arith, ends_above n k (i.end + 1) is a.3 j (omega arith))

  pub save_past : i.end < s → save (i ∷ is) s e ≡ i ∷ save is s e
  unfolding save
  save_past h = rw (staying_first i is s (length is) h)

save_ascending : (n k lo s e : ℕ) (is : List Interval) → lo ≤ s → s + k ≤ e → e ≤ n → Ascending n k lo is → Ascending n k lo (save is s e)
unfolding save staying
save_ascending n k lo s e [] h l m a = (h, l, m, tt)
save_ascending n k lo s e (i ∷ is) h l m a =
    ⊎_elim
    (λ gt. rw (save_past n k lo s e i is a gt) (a.0, a.1, a.2, save_ascending n k (i.end + 1) s e is (omega arith) l m a.3))
    (λ le. rw (save_touch n k lo s e i is a le) (omega arith, omega arith, omega arith, tt))
    (lt_or_le i.end s)

pub save_canonical : (n k s e : ℕ) (is : List Interval) → s + k ≤ e → e ≤ n → Canonical n k is → Canonical n k (save is s e)
save_canonical n k s e is l m a = save_ascending n k 0 s e is (omega arith) l m a

-- What lies past s and ends below e lies in [s, e).
ends_hold : (n k lo s e x : ℕ) (is : List Interval) → s ≤ lo → Ascending n k lo is → EndsBelow e is → Covers is x → Holds (interval s e) x
ends_hold n k lo s e x [] h a b c = absurd c
ends_hold n k lo s e x (i ∷ is) h a b c =
    ⊎_elim (λ d. omega arith) (λ d. ends_hold n k (i.end + 1) s e x is (omega arith) a.3 b.1 d) c

save_ascending_covers : (n k lo s e : ℕ) (is : List Interval) (x : ℕ) → Ascending n k lo is → EndsBelow e is
    → Covers (save is s e) x ↔ (Covers is x ⊎ Holds (interval s e) x)
unfolding save staying
save_ascending_covers n k lo s e [] x a b =
    ((λ h. ⊎_elim (λ c. inr c) (λ c. absurd c) h), (λ h. ⊎_elim (λ c. absurd c) (λ c. inl c) h))
save_ascending_covers n k lo s e (i ∷ is) x a b =
    ⊎_elim
    (λ gt. rw (save_past n k lo s e i is a gt) (first_apart (save_ascending_covers n k (i.end + 1) s e is x a.3 b.1)))
    (λ le. rw (save_touch n k lo s e i is a le) (
      (λ h. ⊎_elim
          (λ c. ⊎_elim (λ lt. inl (inl (omega arith))) (λ ge. inr (omega arith)) (lt_or_le x s))
          (λ c. absurd c) h),
      (λ h. inl (⊎_elim
          (λ c. ⊎_elim (λ d. omega arith)
          (λ d. let g = ends_hold n k (i.end + 1) s e x is (omega arith) a.3 b.1 d in omega arith) c)
          (λ c. omega arith) h)),
    ))
    (lt_or_le i.end s)

pub save_covers : (n k s e : ℕ) (is : List Interval) (x : ℕ) → Canonical n k is → EndsBelow e is
    → Covers (save is s e) x ↔ (Covers is x ⊎ Holds (interval s e) x)
save_covers n k s e is x a b = save_ascending_covers n k 0 s e is x a b

-- An end that is past every end of the list and past the new one is past every end of the new list.
save_ascending_ends : (n k lo s e e' : ℕ) (is : List Interval) → Ascending n k lo is → e < e' → EndsBelow e' is → EndsBelow e' (save is s e)
unfolding save staying
save_ascending_ends n k lo s e e' [] a h b = (h, tt)
save_ascending_ends n k lo s e e' (i ∷ is) a h b =
    ⊎_elim
    (λ gt. rw (save_past n k lo s e i is a gt) (b.0, save_ascending_ends n k (i.end + 1) s e e' is a.3 h b.1))
    (λ le. rw (save_touch n k lo s e i is a le) (omega arith, tt))
    (lt_or_le i.end s)

pub save_ends : (n k s e e' : ℕ) (is : List Interval) → Canonical n k is → e < e' → EndsBelow e' is → EndsBelow e' (save is s e)
save_ends n k s e e' is a h b = save_ascending_ends n k 0 s e e' is a h b

pub ends_more : (e e' : ℕ) (is : List Interval) → e ≤ e' → EndsBelow e is → EndsBelow e' is
ends_more e e' [] h b = tt
ends_more e e' (i ∷ is) h b = (omega arith, ends_more e e' is h b.1)
