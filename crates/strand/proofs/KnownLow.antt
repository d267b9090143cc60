-- Low starts that are known while letters are read: what is left of the window in which they were found, when a search asks for them.
use Rattle.std.proofs.Common.{◌≡◌, sym, ap, ◌∙◌, subst, Option, Some, None, IfSome, List, [], ⊎_elim, ℕ, ◌+◌, ◌-◌, ◌≤◌, ◌<◌, arith, length, take, drop, drop_of_length-le, length-take-le, take-take, take-add, drop_at, drop-drop}
use Rattle.letters.specs.Place.{Place, places}
use Rattle.letters.proofs.Places.{places_length, places_below}
use Rattle.intervals.proofs.Order.{lt_or_le}
use Rattle.scans.specs.Setup.{Setup, kmers}
use Rattle.scans.specs.Scans.{Outcome}
use Rattle.search.specs.declared.Scanned.{Scanned}
use Rattle.search.specs.Terms.Carry.{Answers}
use Rattle.certificates.specs.Terms.Low.{LowBounds}
use Rattle.scans.proofs.Counting.{below_take, below_drop}
use Rattle.certificates.proofs.LowScan.{low_drop}
use Rattle.strand.specs.declared.known.LowSince.{LowSince}
use Rattle.strand.specs.Terms.ReadingOn.{run_to}
use Rattle.strand.specs.Terms.LowStarts.{KnownLow, AsksLow}
use Rattle.step.proofs.Placing.{newest, newest_length, window_newest}

-- ---- The window after `made` places, in that after i places.
part : (n m : ℕ) (l : List Place) → n ≤ length l → take m (drop n l) ≡ drop n (take (n + m) l)
part n m l h = sym (ap (λ (z : List Place). drop n z) (take-add n m l) ∙ drop_at (take n l) (take m (drop n l)) n (length-take-le n l h))

module _ (w : ℕ) (ps : List Place) {made i : ℕ} (earlier : made ≤ i) (h : i ≤ length ps) where
  -- The places before index `made`, if the window still has some of them.
  before_made : (m : ℕ) → m ≡ i - (i - w) - (i - made) → drop (i - w) (take (i - w + m) ps) ≡ drop (i - w) (take made ps)
  before_made m e = ⊎_elim gone here (lt_or_le made (i - w))
    where
      here : i - w ≤ made → drop (i - w) (take (i - w + m) ps) ≡ drop (i - w) (take made ps)
      here a = ap (λ (n : ℕ). drop (i - w) (take n ps)) (let n : i - w + m ≡ made = omega arith in n)

      none : (n : ℕ) → n ≤ i - w → drop (i - w) (take n ps) ≡ []
      none n a = drop_of_length-le (take n ps) {i = i - w} (omega (arith, length-take-le n ps (omega arith)))

      gone : made < i - w → drop (i - w) (take (i - w + m) ps) ≡ drop (i - w) (take made ps)
      gone a = none (i - w + m) (omega arith) ∙ sym (none made (omega arith))

  pub newest_older : (m : ℕ) → m ≡ i - (i - w) - (i - made) → take m (newest w i ps) ≡ drop (i - w - (made - w)) (newest w made ps)
  newest_older m e =
      part (i - w) m (take i ps) (omega (arith, length-take-le i ps h))
      ∙ ap (λ (z : List Place). drop (i - w) z) (take-take (i - w + m) i ps (omega arith))
      ∙ before_made m e
      ∙ ap (λ (n : ℕ). drop n (take made ps)) (let n : i - w ≡ made - w + (i - w - (made - w)) = omega arith in n)
      ∙ sym (drop-drop (i - w - (made - w)) (made - w) (take made ps))

-- ---- What is known stays known.
module _ (S : Setup) (codes : List ℕ) {i : ℕ} where
  pub known_on : (c : Option LowSince) {j : ℕ} → i ≤ j → IfSome c (KnownLow S codes i) → IfSome c (KnownLow S codes j)
  known_on None h k = tt
  known_on (Some c) h k = record { made_in = omega (arith, k.made_in); low = k.low }

  -- At letter i, which has entered the window.
  pub asks_low : {q : List Place} {len : ℕ} → 0 < S.window_size → i < length codes → length q ≡ len → q ≡ (run_to S codes (i + 1)).window
      → (c : Option LowSince) → IfSome c (KnownLow S codes i) → IfSome c (AsksLow S q len i)
  asks_low some l n e None k = tt
  asks_low {q} {len} some l n e (Some c) k =
      let w = S.window_size in
      let ps = places S.kmer codes in
      let made = c.made in
      let all = places_length S.kmer codes in
      let now : q ≡ newest w (i + 1) ps = e ∙ window_newest S some ps (i + 1) (omega arith) in
      let then : (run_to S codes made).window ≡ newest w made ps = window_newest S some ps made (omega (arith, k.made_in)) in
      let d = i + 1 - w - (made - w) in
      let old : take (len - (i + 1 - made)) q ≡ drop d (newest w made ps) =
      ap (λ (z : List Place). take (len - (i + 1 - made)) z) now
      ∙ newest_older w ps {made = made} {i = i + 1} (omega (arith, k.made_in)) (omega arith) (len - (i + 1 - made)) (omega (arith, sym n ∙ ap length now ∙ newest_length w (i + 1) ps (omega arith))) in
      record {
        made_in = k.made_in;
        low = subst (λ (z : List Place). LowBounds S z c.starts) (sym old)
            (low_drop S (newest w made ps) (below_drop (kmers S) (made - w) (take made ps) (below_take (kmers S) made ps (places_below S.kmer codes))) (omega (arith, newest_length w made ps (omega (arith, k.made_in)))) d c.starts
            (subst (λ (z : List Place). LowBounds S z c.starts) then k.low));
      }

-- The answer of a search, with counts that are the same.
pub answers_same : {S : Setup} {q : List Place} {o : Outcome} {r : Scanned} {counts counts' : List ℕ} → counts' ≡ counts → Answers S q o r counts → Answers S q o r counts'
answers_same e h = rw e h
