-- The find that a carried scan and a certificate of its start tell, in a ring (`certain_found`), and where they tell none.
use Rattle.std.proofs.Common.{◌≡◌, refl, sym, ap, ◌∙◌, subst, Bool, true, ◌&&◌, true≢false, List, [], ◌∷◌, ◌++◌, Option, Some, None, IfSome, is_some, ℕ, ◌+◌, ◌-◌, ◌^◌, ◌<◌, arith, add-one, length, get_or, drop, length-append, length-drop, T, Float}
use lib.Seq.{drop-append-le}
use lib.Ieee.{le}
use lib.Ieee.Fits.{and_l, and_r}
use Rattle.floats.specs.Arithmetic.{◌⊕◌}
use Rattle.letters.specs.Place.{Place, Below}
use Rattle.letters.specs.Terms.Entry.{decode}
use Rattle.scans.specs.declared.Params.{Params}
use Rattle.search.specs.declared.Certificate.{Certificate}
use Rattle.search.specs.declared.Carry.{Carry}
use Rattle.scans.specs.Setup.{Setup, kmers}
use Rattle.scans.specs.Counts.{raise}
use Rattle.scans.specs.Scans.{at, dust_backward}
use Rattle.scans.specs.Terms.Counted.{Counted, Touched}
use Rattle.scans.specs.Terms.Numbers.{setup_of}
use Rattle.scans.specs.Terms.Window.{ring_index, window, newest_in, Windowed, Joining}
use Rattle.scans.specs.Terms.Units.{distance}
use Rattle.search.specs.Terms.Certified.{Bounds, Certified}
use Rattle.search.specs.Terms.Carry.{Answers, Carried, newest_score, CarriesOn}
use Rattle.scans.proofs.Counting.{count_le, below_right, raise_counted}
use Rattle.scans.proofs.Rings.{window_length, window_newest}
use Rattle.scans.proofs.Touched.{counted_touched, touched_more}
use Rattle.scans.proofs.Shape.{usual_range}
use Rattle.search.proofs.CarriedScan.{counted_unique}
use Rattle.certificates.proofs.CertificateCarried.{start_find}
use Rattle.scans.proofs.BackwardScan.{window_below_lem}
use Rattle.search.proofs.CertificateRing.{entry_place}

-- A value that is there, with what a clause says of it.
pub there : {A : Type 0} {P : A → Type 0} (o : Option A) → IfSome o P → is_some o ≡ true → (x : A) × (o ≡ Some x) × P x
there None h e = absurd (true≢false (sym e))
there (Some x) h e = (x, refl, h)

module _ (p : Params) (ring : List ℕ) (head len : ℕ) (wc : List ℕ) (ln f : List Float) (counts : List ℕ) (W : Windowed p ring head len wc (length ln)) (start : ℕ) (inside : start < len)
    (n : Counted (4 ^ p.kmer) counts (drop start (window ring head (len - 1)))) where
  abbrev S : Setup
  S = setup_of p ln f

  abbrev q : List Place
  q = window ring head len

  abbrev q₀ : List Place
  q₀ = window ring head (len - 1)

  abbrev e : Place
  e = decode (get_or ring (ring_index (length ring) head (len - 1)) 0)

  pub joins : q ≡ q₀ ++ e ∷ []
  joins = let w = W in window_newest ring head len (omega (arith, w.ring_is, w.head_in)) (omega arith) (omega (arith, w.ring_is, w.len_in))

  before : length q₀ ≡ len - 1
  before = let w = W in window_length ring head (len - 1) (omega (arith, w.ring_is, w.head_in)) (omega (arith, w.ring_is, w.len_in))

  pub joining : Joining p ring head len wc (length ln) counts
  joining =
      record {
        windowed = W;
        some = omega arith;
        long = n.long;
        few = λ x. omega (arith, n.counted x, count_le x (drop start q₀), length-drop start q₀, before);
      }

  more : drop start q ≡ drop start q₀ ++ e ∷ []
  more = ap (λ (z : List Place). drop start z) joins ∙ drop-append-le start q₀ (e ∷ []) (omega (arith, before))

  all : Below (kmers S) (q₀ ++ e ∷ [])
  all = subst (λ (z : List Place). Below (kmers S) z) joins (window_below_lem W)

  raised : Counted (kmers S) (raise counts e) (drop start q)
  raised = subst (λ (l : List Place). Counted (kmers S) (raise counts e) l) (sym more) (raise_counted (kmers S) counts (drop start q₀) e (below_right (kmers S) q₀ (e ∷ []) all).0 n)

  -- Nothing is told.
  pub none_led : Touched counts (drop start q)
  none_led = subst (λ (l : List Place). Touched counts l) (sym more) (touched_more counts (drop start q₀) (e ∷ []) (counted_touched (kmers S) counts (drop start q₀) n))

  module _ (counts' : List ℕ) (is : counts' ≡ raise counts e) where
    pub next_touched : Touched counts' (drop start q)
    next_touched = subst (λ (c : List ℕ). Touched c (drop start q)) (sym is) (counted_touched (kmers S) (raise counts e) (drop start q) raised)

    pub next_counted : Counted (kmers S) counts' (drop start q)
    next_counted = subst (λ (c : List ℕ). Counted (kmers S) c (drop start q)) (sym is) raised

  -- The start is the find.
  module _ (c : Carry) (on : c.on ≡ true) (k : Carried S q₀ start c) (entry : ℕ) (is : entry ≡ newest_in ring head len) (b : Bool)
      (leads : b ≡ le (c.best ⊕ distance) (newest_score S (len - start) counts (decode entry) c) && le distance (newest_score S (len - start) counts (decode entry) c)) (led : b ≡ true) where
    place : decode entry ≡ e
    place = entry_place p ring head len wc ln counts joining entry is q₀ e joins

    size : length (q₀ ++ e ∷ []) ≡ len
    size = omega (arith, length-append q₀ (e ∷ []), before)

    score : newest_score S (len - start) counts (decode entry) c ≡ newest_score S (length (q₀ ++ e ∷ []) - start) counts e c
    score = ap (λ (z : Place). newest_score S (len - start) counts z c) place ∙ ap (λ (l : ℕ). newest_score S (l - start) counts e c) (sym size)

    tests : T (le (c.best ⊕ distance) (newest_score S (length (q₀ ++ e ∷ []) - start) counts e c) && le distance (newest_score S (length (q₀ ++ e ∷ []) - start) counts e c))
    tests =
        subst (λ (x : Float). T (le (c.best ⊕ distance) x && le distance x)) score
        (subst T (sym led ∙ leads) tt)

    pub next_carried : {c' : Carry} {counts' : List ℕ} → CarriesOn S q₀ e start c c' counts counts' → Carried S q start c'
    next_carried {c'} next = subst (λ (z : List Place). Carried S z start c') (sym joins) (next.carries on n k)

    module _ (r : Carry) (r_on : r.on ≡ true) (carried : Carried S q start r) (certain : is_some r.certificate ≡ true) (counts' : List ℕ) (m : Counted (kmers S) counts' (drop start q)) where
      held : (d : Certificate) × (r.certificate ≡ Some d) × Bounds S q start d
      held = there r.certificate (carried.certified r_on) certain

      find : dust_backward S q ≡ record { find = at start; counts = counts' }
      find =
          let w = W in
          let d : Certificate = held.0 in
          let sl : Float = newest_score S (length (q₀ ++ e ∷ []) - start) counts e c in
          let B : Bounds S (q₀ ++ e ∷ []) start d = subst (λ (z : List Place). Bounds S z start d) joins held.2 in
          ap (λ (z : List Place). dust_backward S z) joins
          ∙ start_find S (usual_range B.setup.usual) q₀ e start (omega (arith, before)) c on k.sums counts n all (omega (arith, size, w.len_in)) B.setup B.units (omega (arith, B.few)) B.u_below B.gap_above
          (and_l (le (c.best ⊕ distance) sl) (le distance sl) tests) (and_r (le (c.best ⊕ distance) sl) (le distance sl) tests)
          ∙ ap (λ (z : List ℕ). record { find = at start; counts = z }) (counted_unique (kmers S) (raise counts e) counts' (drop start q) raised m)

      pub certain_found : Answers S q (dust_backward S q) (record { found = start + 1; carry = r }) counts'
      certain_found =
          rw find
          (record {
            settles = record { find_is = rw (add-one start); counts_are = refl };
            begins = λ i z. let x : start ≡ i = omega arith in (r_on, subst (λ (y : ℕ). Carried S q y r) x carried);
            ends = λ z. absurd (let x : ⊥ = omega arith in x);
          })

-- A certificate that is made anew.
pub remade : {S : Setup} {q : List Place} {j : ℕ} (c : Carry) (d : Option Certificate) → c.on ≡ true → Carried S q j c → Certified S q j d → Carried S q j (record { on = true; s = c.s; best = c.best; certificate = d })
remade c d on k certified = record { sums = record { s_is = λ _. k.sums.s_is on; best_is = λ _. k.sums.best_is on }; certified = λ _. certified }
