-- Lines and their parts.
use Rattle.std.proofs.Common.{◌≡◌, ℕ, suc, ◌+◌, ◌-◌, ◌<◌, ◌≤◌, min, Bool, cond, ltb, List, ◌++◌, length, take, drop, get_or, refl, sym, ap, ◌∙◌, arith, append_assoc, append-nil, drop_of_length-le, take_all, length-drop, lt-ltb, le-ltb, ℤ, pos}
use Rattle.std.proofs.lemmas.List.{take_min, drop_min}
use Rattle.intervals.specs.declared.Interval.{Interval}
use Rattle.intervals.specs.Interval.{interval}
use Rattle.intervals.proofs.Slice.{list_next}
use Rattle.ranking.specs.Text.{each}
use Rattle.strongest_list.specs.Stretches.{Asked}
use Rattle.ranking.specs.Ranking.{place, places_of, amount, scores, region_at, begun_in, within, letters_in, ending, line}

-- ---- The region, from the front of the list.
module _ (rs : List Interval) (x i : ℕ) (e : region_at rs x ≡ region_at (drop i rs) x) where
  next : i < length rs → region_at rs x ≡ cond (ltb x (get_or rs i (interval 0 0)).end) (get_or rs i (interval 0 0)) (region_at (drop (i + 1) rs) x)
  unfolding region_at
  next h = e ∙ ap (λ (l : List Interval). region_at l x) (list_next rs i h)

  pub region_found : i < length rs → x < (get_or rs i (interval 0 0)).end → get_or rs i (interval 0 0) ≡ region_at rs x
  region_found h t = sym (next h ∙ ap (λ (b : Bool). cond b (get_or rs i (interval 0 0)) (region_at (drop (i + 1) rs) x)) (lt-ltb x (get_or rs i (interval 0 0)).end t))

  pub region_turn : i < length rs → (get_or rs i (interval 0 0)).end ≤ x → region_at rs x ≡ region_at (drop (i + 1) rs) x
  region_turn h t = next h ∙ ap (λ (b : Bool). cond b (get_or rs i (interval 0 0)) (region_at (drop (i + 1) rs) x)) (le-ltb x (get_or rs i (interval 0 0)).end t)

  pub region_end : length rs ≤ i → interval 0 0 ≡ region_at rs x
  unfolding region_at
  region_end h = sym (e ∙ ap (λ (l : List Interval). region_at l x) (drop_of_length-le rs h))

-- ---- The letters, cut from a slice.
pub cut_is : (s e a b : ℕ) (xs : List ℕ) → a ≡ min e (length xs) → b ≡ min s (length (take a xs))
    → take (length (take a xs) - b) (drop b (take a xs)) ≡ drop s (take e xs)
cut_is s e a b xs p q =
    let ys : List ℕ = take a xs in
    take_all (length ys - b) (drop b ys) (omega (arith, length-drop b ys)) ∙ ap (λ (n : ℕ). drop n ys) q ∙ drop_min s ys
    ∙ ap (λ (l : List ℕ). drop s l) (ap (λ (n : ℕ). take n xs) p ∙ take_min e xs)

-- ---- All lines.
module _ (f : ℕ → List ℕ) (text : List ℕ) where
  pub lines_start : text ≡ text ++ each f 0
  unfolding each
  lines_start = sym (append-nil text)

  pub lines_more : (n : ℕ) (a b : List ℕ) → a ≡ text ++ each f n → b ≡ a ++ f n → b ≡ text ++ each f (n + 1)
  unfolding each
  lines_more n a b p q =
      q ∙ ap (λ (l : List ℕ). l ++ f n) p ∙ append_assoc text (each f n) (f n)
      ∙ ap (λ (m : ℕ). text ++ each f m) (let e : suc n ≡ n + 1 = omega arith in e)

-- ---- A line, part by part.
more : (t a b x y : List ℕ) → a ≡ t ++ x → b ≡ a ++ y → b ≡ t ++ (x ++ y)
more t a b x y p q = q ∙ ap (λ (l : List ℕ). l ++ y) p ∙ append_assoc t x y

module _ (name : List ℕ) (A : Asked) (is : List Interval) (zs : List ℤ) (i : ℕ) where
  abbrev here : Interval
  here = get_or is i (interval 0 0)

  pub line_is : (t a b c d l : List ℕ) (s p k : ℕ) (r : Interval)
      → s ≡ amount (get_or zs i (pos 0)) → p ≡ places_of A.kmer here → k ≡ begun_in r (take (i + 1) is) → r ≡ region_at A.regions here.start → l ≡ letters_in A.sequence here
      → a ≡ t ++ place name here → b ≡ a ++ scores (i + 1) s p → c ≡ b ++ within r k → d ≡ c ++ ending A.kmer l → d ≡ t ++ line name A is zs i
  line_is t a b c d l s p k r es ep ek er el ea eb ec ed =
      more t a d (place name here) _ ea (more a b d (scores (i + 1) s p) _ eb (more b c d (within r k) (ending A.kmer l) ec ed))
      ∙ (rw (es, ep, ek, er, el) refl)
