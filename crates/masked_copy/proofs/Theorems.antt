-- What a masked copy shows of a sequence s under a list of intervals.
use Rattle.std.proofs.Common.{◌≡◌, refl, sym, ap, ◌∙◌, Bool, true, false, cond, ◌⊎◌, inl, inr, ⊎_elim, ◌↔◌, List, ◌∷◌, ◌++◌, map, ℕ, ◌+◌, ◌-◌, ◌≤◌, ◌<◌, arith, length, get_or, ext_get_or}
use borrow.Author.Tests.{le-leb, lt-leb}
use lib.ListN.{length-map, get_or-map}
use Rattle.buffers.proofs.At.{default_free}
use Rattle.intervals.specs.declared.Interval.{Interval}
use Rattle.intervals.specs.Interval.{Covers, covered}
use Rattle.intervals.proofs.Counted.{covered_agrees, covered_same}
use Rattle.intervals.proofs.Covered.{append_covers}
use Rattle.masked_copy.specs.declared.Masking.{Masking}
use Rattle.masked_copy.specs.declared.Masking.TheVariants.{LowerCase}
use Rattle.masked_copy.specs.Copy.{lower, shown, copy_of}
use Rattle.masked_copy.specs.Upper.{upper}
use Rattle.masked_copy.proofs.Copying.{lower_below, lower_above, lower_cases, copy_length, copy_at, copy_is}

module _ (m : Masking) (is : List Interval) (s : List ℕ) (x : ℕ) (within : x < length s) where
  -- A letter that an interval of the list holds is shown masked.
  pub masked_byte : Covers is x → get_or (copy_of m is s) x 0 ≡ shown m (get_or s x 0)
  masked_byte h = copy_at m is s x within ∙ rw ((covered_agrees is x).1 h)

  -- A letter that none holds is copied.
  pub unmasked_byte : (Covers is x → ⊥) → get_or (copy_of m is s) x 0 ≡ get_or s x 0
  unmasked_byte h = copy_at m is s x within ∙ go (covered is x) (λ t. h ((covered_agrees is x).0 t))
    where
      go : (b : Bool) → (b ≡ true → ⊥) → cond b (shown m (get_or s x 0)) (get_or s x 0) ≡ get_or s x 0
      go true no_letter_lem = absurd (no_letter_lem refl)
      go false no_letter_lem = refl

-- In lower case a byte outside A to Z is copied, masked or not.
pub other_byte : (is : List Interval) (s : List ℕ) (x : ℕ) → x < length s → (get_or s x 0 < 65) ⊎ (90 < get_or s x 0)
    → get_or (copy_of LowerCase is s) x 0 ≡ get_or s x 0
other_byte is s x within h = copy_at LowerCase is s x within ∙ go (covered is x)
  where
    same : lower (get_or s x 0) ≡ get_or s x 0
    same = ⊎_elim (λ l. lower_below (get_or s x 0) l) (λ g. lower_above (get_or s x 0) g) h

    go : (b : Bool) → cond b (lower (get_or s x 0)) (get_or s x 0) ≡ get_or s x 0
    go true = same
    go false = refl

module _ (m : Masking) (s : List ℕ) where
  -- Two lists that cover the same letters give the same copy.
  pub same_copy : (is js : List Interval) → ((x : ℕ) → x < length s → Covers is x ↔ Covers js x) → copy_of m is s ≡ copy_of m js s
  same_copy is js h =
      copy_is m js s (copy_of m is s) (copy_length m is s)
      (λ x l. copy_at m is s x l ∙ ap (λ (b : Bool). cond b (shown m (get_or s x 0)) (get_or s x 0)) (covered_same is js x (h x l)))

  -- So the order of a list has no part in it, nor has an entry that comes twice, nor one that holds no letter of the sequence.
  pub any_order : (is js : List Interval) → copy_of m (is ++ js) s ≡ copy_of m (js ++ is) s
  any_order is js =
      same_copy (is ++ js) (js ++ is)
      (λ x l.
      let a = append_covers x is js in
      let b = append_covers x js is in (
        (λ h. b.1 (⊎_elim (λ c. inr c) (λ c. inl c) (a.0 h))),
        (λ h. a.1 (⊎_elim (λ c. inr c) (λ c. inl c) (b.0 h))),
      ))

  pub twice : (is : List Interval) → copy_of m (is ++ is) s ≡ copy_of m is s
  twice is =
      same_copy (is ++ is) is
      (λ x l. let a = append_covers x is is in ((λ h. ⊎_elim (λ c. c) (λ c. c) (a.0 h)), (λ h. a.1 (inl h))))

  pub no_letter_lem : (i : Interval) (is : List Interval) → (i.end ≤ i.start) ⊎ (length s ≤ i.start) → copy_of m (i ∷ is) s ≡ copy_of m is s
  no_letter_lem i is e =
      same_copy (i ∷ is) is
      (λ x l. ((λ h. ⊎_elim (λ c. absurd (⊎_elim (λ p. omega arith) (λ p. omega arith) e)) (λ c. c) h), (λ h. inr h)))

-- Upper case undoes the copy in lower case, up to letters that were in lower case already.
upper_letter : (b : ℕ) → 97 ≤ b → b ≤ 122 → upper b ≡ b - 32
unfolding upper
upper_letter b h k = rw (le-leb 97 b h, le-leb b 122 k)

upper_below : (b : ℕ) → b < 97 → upper b ≡ b
unfolding upper
upper_below b h = rw (lt-leb 97 b h)

upper_lower : (b : ℕ) → upper (lower b) ≡ upper b
upper_lower b =
    lower_cases (λ (x y : ℕ). upper y ≡ upper x) b (λ h. refl) (λ h. refl)
    (λ h k. upper_letter (b + 32) (omega arith) (omega arith) ∙ omega (arith, upper_below b (omega arith)))

map_at : (f : ℕ → ℕ) (s : List ℕ) (x : ℕ) → x < length s → get_or (map f s) x 0 ≡ f (get_or s x 0)
map_at f s x h = default_free (map f s) x 0 (f 0) (omega (arith, length-map s f)) ∙ get_or-map f s x 0

pub upper_copy : (is : List Interval) (s : List ℕ) → map upper (copy_of LowerCase is s) ≡ map upper s
upper_copy is s =
    let c : List ℕ = copy_of LowerCase is s in
    let l : length c ≡ length s = copy_length LowerCase is s in
    ext_get_or 0 (map upper c) (map upper s) (length-map c upper ∙ l ∙ sym (length-map s upper))
    (λ x h.
    let k : x < length c = omega (arith, length-map c upper) in
    let j : x < length s = omega arith in
    map_at upper c x k ∙ ap upper (copy_at LowerCase is s x j) ∙ go (covered is x) (get_or s x 0) ∙ sym (map_at upper s x j))
  where
    go : (t : Bool) (b : ℕ) → upper (cond t (lower b) b) ≡ upper b
    go true b = upper_lower b
    go false b = refl

-- An upper-case sequence comes back.
pub upper_case_back : (is : List Interval) (s : List ℕ) → map upper s ≡ s → map upper (copy_of LowerCase is s) ≡ s
upper_case_back is s h = upper_copy is s ∙ h
