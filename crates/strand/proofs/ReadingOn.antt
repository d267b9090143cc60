-- Reading on over letters that are not searched from: each leaves the interval in hand as it is, and is one step of the definition's run.
use Rattle.std.proofs.Common.{◌≡◌, refl, sym, ap, ◌∙◌, subst, false, List, [], ◌∷◌, ◌++◌, ℕ, ◌+◌, ◌≤◌, ◌<◌, add-one, arith, length, take, take-suc, length-take-le, Float}
use Rattle.letters.specs.Place.{Place, ambiguous, place_at, places}
use Rattle.letters.specs.Terms.Rolling.{kmer_after, entry_of}
use Rattle.letters.proofs.Places.{places_length, places_at}
use Rattle.letters.proofs.Rolling.{value_small}
use Rattle.intervals.specs.declared.Interval.{Interval}
use Rattle.scans.specs.declared.Params.{Params}
use Rattle.scans.specs.Setup.{Setup}
use Rattle.scans.specs.Terms.Numbers.{setup_of}
use Rattle.scans.proofs.BackwardScan.{window_below_lem}
use Rattle.step.specs.Step.{is_at, whole, step, run}
use Rattle.step.specs.declared.hand.Open.{Open}
use Rattle.step.specs.declared.state.State.{State}
use Rattle.step.specs.Terms.KnownCounts.{sought}
use Rattle.step.specs.Terms.Entering.{held, newest_of, Entered, Enters}
use Rattle.step.specs.Terms.Searching.{is_searched}
use Rattle.step.specs.Terms.Finding.{PassedOn}
use Rattle.strand.specs.Terms.ReadingOn.{run_to, Read, Skims}
use Rattle.step.proofs.Searching.{look_unsearched, seeks_passed}
use Rattle.step.proofs.Like.{ended}
use Rattle.step.proofs.Placing.{run_next}
use Rattle.step.proofs.Letter.{Settled, SeeksAt, looked_windowed, looked_known, settles, passed_find, stepped}

-- The places of one more letter.
pub places_take : (k : ℕ) (codes : List ℕ) (i : ℕ) → i < length codes → take (i + 1) (places k codes) ≡ take i (places k codes) ++ place_at k codes i ∷ []
places_take k codes i l =
    let ps = places k codes in
    rw (add-one i) (take-suc ps i ambiguous (omega (arith, places_length k codes)))
    ∙ ap (λ (e : Place). take i ps ++ e ∷ []) (places_at k codes i l)

-- The definition's run takes letter i.
pub run_turn : (S : Setup) (codes : List ℕ) (i : ℕ) → i < length codes → run_to S codes (i + 1) ≡ step S i (run_to S codes i) (place_at S.kmer codes i)
run_turn S codes i l = ap (λ (ps : List Place). run S ps) (places_take S.kmer codes i l) ∙ run_next S (take i (places S.kmer codes)) (place_at S.kmer codes i) (length-take-le i (places S.kmer codes) (omega (arith, places_length S.kmer codes)))

-- A letter that is not searched from is no find.
module _ {p : Params} {ln f : List Float} {a a' : State} {ring window_counts counts counts' : List ℕ} (n : Entered p ln f a.window (entry_of p.kmer a.kmer) ring window_counts counts)
    (h : is_searched p.min_start_cnt window_counts (newest_of p a) ≡ false) (t : PassedOn p ln f ring a a' counts counts') where
  unfound : SeeksAt p ln f a ring counts (sought a'.window 0) counts'
  unfound saved =
      seeks_passed (look_unsearched (setup_of p ln f) a.i (held a ring counts saved) (newest_of p a) window_counts n.windowed.counted h) n.known n.newest refl
      (window_below_lem n.windowed) t.passes

  passes_by : is_at a.hand.end (a.i + 1) ≡ false → (saved : List Interval) → Settled p ln f a a' ring window_counts counts saved counts' saved
  passes_by past saved = settles past n.windowed unfound (passed_find saved t)

pub small : {p : Params} {codes : List ℕ} {ln f : List Float} {a a' : State} {ring counts ring' window_counts' counts' : List ℕ}
    → Enters p codes ln f a a' ring counts ring' window_counts' counts' → p.kmer ≤ 12 → a'.kmer.value < 16777216
small {p} {codes} {a = a} {a'} n k = value_small p.kmer codes (a.i + 1) a'.kmer n.kmer_is k

module _ {p : Params} {codes : List ℕ} {ln f : List Float} {a a₁ : State} (l : a.i < length codes)
    {ring counts ring' window_counts' counts₁ : List ℕ} (n : Enters p codes ln f a a₁ ring counts ring' window_counts' counts₁) where
  module _ (h : is_searched p.min_start_cnt window_counts' (newest_of p a₁) ≡ false) {a' : State} {counts' : List ℕ} (t : PassedOn p ln f ring' a₁ a' counts₁ counts') where
    i_after : a'.i ≡ a.i + 1
    i_after = t.i_is ∙ ap (λ (i : ℕ). i + 1) n.i_is

    pub read_on : Read p codes ln f a' ring' window_counts' counts'
    read_on =
        let x = unfound n.entered h t [] in
        record {
          i_in = omega (arith, i_after, l);
          kmer_is = t.kmer_is ∙ n.kmer_is ∙ ap (kmer_after p.kmer codes) (sym i_after);
          windowed = looked_windowed ring' x refl n.entered.windowed;
          known = looked_known ring' x refl;
        }

    pub skims_on : {from : State} {ring₀ counts₀ : List ℕ} → Skims p codes ln f from a ring₀ counts₀ ring counts → Skims p codes ln f from a' ring₀ counts₀ ring' counts'
    skims_on {from} s =
        record {
          further = omega (arith, s.further, i_after);
          hand_is = t.hand_is ∙ n.hand_is ∙ s.hand_is;
          onward = λ saved before like.
              let past : is_at a.hand.end (a.i + 1) ≡ false =
              ended {i = a.i} a.hand.end (omega (arith, s.further, before, ap (λ (o : Open). whole o.end) s.hand_is)) in
              let past₁ = subst (λ (i : ℕ). is_at a₁.hand.end (i + 1) ≡ false) (sym n.i_is) (subst (λ (o : Open). is_at o.end (a.i + 1) ≡ false) (sym n.hand_is) past) in
              rw (i_after, run_turn (setup_of p ln f) codes a.i l) (stepped saved n past (passes_by n.entered h t past₁ saved).like (s.onward saved before like));
        }
