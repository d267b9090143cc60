-- Lists are read as they were written.
use Rattle.std.proofs.Common.{◌≡◌, refl, sym, ap, ap₂, ◌∙◌, ℕ, zero, suc, ◌+◌, ◌*◌, ◌/◌, ◌%◌, ◌<◌, List, [], ◌∷◌, ◌++◌, arith, length, take, get_or, take-suc, take_all, add-one}
use Rattle.intervals.specs.declared.Interval.{Interval}
use Rattle.intervals.specs.Interval.{interval, Ascending}
use Rattle.small.specs.Bytes.{bytes_of}
use Rattle.small.proofs.Bytes.{bytes_length}
use Rattle.strands.specs.Bytes.{number_at, AllFit}

four_read : (x : ℕ) → x < 4294967296 → ((x % 256 + 256 * (x / 256 % 256)) + 65536 * (x / 65536 % 256)) + 16777216 * (x / 16777216 % 256) ≡ x
four_read x h = omega arith

-- A list of at most so many letters fits.
pub ascending_fit : (n k lo : ℕ) (is : List Interval) → n < 4294967296 → Ascending n k lo is → AllFit is
ascending_fit n k lo [] h a = tt
ascending_fit n k lo (i ∷ is) h a = (omega (arith, h, a.1, a.2), omega (arith, h, a.2), ascending_fit n k (i.end + 1) is h a.3)

-- Past the first pair.
past : (i : Interval) (is : List Interval) (m : ℕ) → get_or (bytes_of (i ∷ is)) (suc (suc (suc (suc (suc (suc (suc (suc m)))))))) 0 ≡ get_or (bytes_of is) m 0
unfolding bytes_of
past i is m = refl

module _ (i : Interval) (is : List Interval) where
  past_at : (n m : ℕ) → n ≡ 8 + m → get_or (bytes_of (i ∷ is)) n 0 ≡ get_or (bytes_of is) m 0
  past_at n m e =
      let q : n ≡ suc (suc (suc (suc (suc (suc (suc (suc m))))))) = omega (arith, e) in
      ap (λ (k : ℕ). get_or (bytes_of (i ∷ is)) k 0) q ∙ past i is m

  past_number : (n m : ℕ) → n ≡ 8 + m → number_at (bytes_of (i ∷ is)) n ≡ number_at (bytes_of is) m
  past_number n m e =
      rw (past_at n m e, past_at (n + 1) (m + 1) (omega (arith, e)), past_at (n + 2) (m + 2) (omega (arith, e)), past_at (n + 3) (m + 3) (omega (arith, e))) refl

-- Interval i, as it is read.
first_read : (j : Interval) (is : List Interval) → AllFit (j ∷ is)
    → (number_at (bytes_of (j ∷ is)) 0 ≡ j.start) × (number_at (bytes_of (j ∷ is)) 4 ≡ j.end)
unfolding bytes_of
first_read j is f = (four_read j.start f.0, four_read j.end f.1)

pair_read : (is : List Interval) (i : ℕ) → i < length is → AllFit is
    → (number_at (bytes_of is) (8 * i) ≡ (get_or is i (interval 0 0)).start) × (number_at (bytes_of is) (8 * i + 4) ≡ (get_or is i (interval 0 0)).end)
pair_read [] i h f = absurd (let z : ⊥ = omega (arith, h) in z)
pair_read (j ∷ is) zero h f = first_read j is f
pair_read (j ∷ is) (suc i) h f =
    let p = pair_read is i (omega (arith, h)) f.2 in
    (past_number j is (8 * suc i) (8 * i) (omega arith) ∙ p.0, past_number j is (8 * suc i + 4) (8 * i + 4) (omega arith) ∙ p.1)

-- The first i intervals are read, of any list that these bytes are.
abbrev pub ReadTo : List ℕ → ℕ → List Interval → Type 0
ReadTo bytes i list = (is : List Interval) → AllFit is → bytes ≡ bytes_of is → list ≡ take i is

module _ (bytes : List ℕ) where
  pub read_start : ReadTo bytes 0 []
  read_start is f e = refl

  pub read_turn : (i : ℕ) (list list' : List Interval) → ReadTo bytes i list → i < length bytes / 8
      → list' ≡ list ++ interval (number_at bytes (8 * i)) (number_at bytes (8 * i + 4)) ∷ [] → ReadTo bytes (i + 1) list'
  read_turn i list list' r h e is f b =
      let within : i < length is = omega (arith, h, ap (λ (l : List ℕ). length l) b, bytes_length is) in
      let p = pair_read is i within f in
      e ∙ ap₂ (λ (l m : List Interval). l ++ m) (r is f b)
      (ap₂ (λ (x y : ℕ). interval x y ∷ []) (ap (λ (l : List ℕ). number_at l (8 * i)) b ∙ p.0) (ap (λ (l : List ℕ). number_at l (8 * i + 4)) b ∙ p.1))
      ∙ sym (take-suc is i (interval 0 0) within)
      ∙ ap (λ (k : ℕ). take k is) (sym (add-one i))

  pub read_end : (list : List Interval) → ReadTo bytes (length bytes / 8) list → (is : List Interval) → AllFit is → bytes ≡ bytes_of is → list ≡ is
  read_end list r is f b =
      let n : length bytes / 8 ≡ length is = omega (arith, ap (λ (l : List ℕ). length l) b, bytes_length is) in
      r is f b ∙ ap (λ (k : ℕ). take k is) n ∙ take_all (length is) is (omega arith)
