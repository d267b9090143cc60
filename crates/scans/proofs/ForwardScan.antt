-- The forward scan, a turn at a time, over a straight part of the ring, and over both parts.
use Rattle.std.proofs.Common.{◌≡◌, refl, sym, ap, ◌∙◌, subst, Bool, true, false, cond, true≢false, List, [], ◌∷◌, ◌++◌, ℕ, ◌+◌, ◌-◌, ◌/◌, ◌^◌, ◌<◌, ◌≤◌, arith, length, get_or, drop, replicate, drop_of_length-le, Float}
use lib.Ieee.{lt}
use Rattle.floats.specs.Arithmetic.{◌⊕◌, ◌⊖◌}
use Rattle.floats.specs.Binary64.{slack}
use Rattle.letters.specs.Place.{Place}
use Rattle.letters.specs.Terms.Entry.{decode, decoded}
use Rattle.letters.proofs.Entries.{decoded_length}
use Rattle.scans.specs.declared.forward.ForwardState.{ForwardState}
use Rattle.scans.specs.declared.Params.{Params}
use Rattle.scans.specs.Setup.{Setup, f_at}
use Rattle.scans.specs.Terms.Numbers.{setup_of}
use Rattle.scans.specs.Counts.{raise}
use Rattle.scans.specs.Scans.{value, ForwardSums, Forward, forward_start, forward_judged, forward_from, dust_forward}
use Rattle.scans.specs.Terms.Window.{counted_value, CountsEntry}
use Rattle.scans.specs.Terms.Parts.{Coded, UpTo, forward_of, ForwardPart, Finds}
use Rattle.scans.proofs.Counting.{raise_length}
use Rattle.scans.proofs.ScanCounts.{up_to_raise}
use Rattle.scans.proofs.Walk.{rest_cons, rest_none}
use Rattle.scans.proofs.Values.{raised_value, decode_below}

abbrev pub next_sum : Setup → ForwardSums → Float → Float
next_sum S a v = a.s ⊕ (v ⊖ S.score_threshold)

abbrev pub next_score : Setup → ℕ → ForwardSums → Float → Float
next_score S l a v = next_sum S a v ⊖ f_at S l

-- ---- The definition, one entry on: the l-th of the scan, at index i.
forward_turn : (S : Setup) (limit : Float) (es : List Place) (l i : ℕ) (a : ForwardSums) (counts : List ℕ) (e : Place) (v : Float) → v ≡ value S counts e
    → forward_from S limit (e ∷ es) l i a counts
    ≡ cond (lt limit (next_score S l a v)) (record { sums = forward_judged a (next_sum S a v) (next_score S l a v) i; counts = raise counts e })
    (forward_from S limit es (l + 1) (i + 1) (forward_judged a (next_sum S a v) (next_score S l a v) i) (raise counts e))
unfolding forward_from
forward_turn S limit es l i a counts e v pv = rw pv

-- ---- The code's loop over the entries of a part: what is left of the scan is the whole scan.
pub record Forwarding (S : Setup) (limit : Float) (start from : ℕ) (part : List ℕ) (a : ForwardState) (counts₀ : List ℕ) (i : ℕ) (b : ForwardState) (counts : List ℕ) : Type 0 where
  pub inside : i ≤ length part
  pub same : length counts ≡ length counts₀
  pub going : b.done ≡ false
  pub few : UpTo (from + i) counts
  pub rest : (after : List Place)
      → forward_from S limit (decoded part ++ after) (from + 1 - start) from (forward_of a) counts₀ ≡ forward_from S limit (drop i (decoded part) ++ after) (from + i + 1 - start) (from + i) (forward_of b) counts

module _ (S : Setup) (limit : Float) (start from : ℕ) (part : List ℕ) (a : ForwardState) (counts₀ : List ℕ) where
  module _ (i : ℕ) (b : ForwardState) (counts : List ℕ) (c : Forwarding S limit start from part a counts₀ i b counts) where
    pub forwarding_end : length part ≤ i → ForwardPart S limit start from (decoded part) a b counts₀ counts
    forwarding_end h =
        let e : from + i ≡ from + length (decoded part) = omega (arith, c.inside, decoded_length part) in
        record {
          scanned = λ after.
              c.rest after ∙ ap (λ (es : List Place). forward_from S limit (es ++ after) (from + i + 1 - start) (from + i) (forward_of b) counts) (rest_none part i h)
              ∙ ap (λ (z : ℕ). forward_from S limit after (z + 1 - start) z (forward_of b) counts) e ∙ rw c.going;
          few = λ _. subst (λ (z : ℕ). UpTo z counts) e c.few;
        }

    module _ (r : Coded part (length counts₀)) (h : i < length part) where
      abbrev entry : ℕ
      entry = get_or part i 0

      entry_below : entry / 2 < length counts
      entry_below = omega (arith, r.below i h, c.same)

      module _ (v : Float) (counts' : List ℕ) (k : CountsEntry S.ln counts (decode entry) v counts') (s : start ≤ from) (b' : ForwardState)
          (judged : forward_of b' ≡ forward_judged (forward_of b) (next_sum S (forward_of b) v) (next_score S (from + i + 1 - start) (forward_of b) v) (from + i)) where
        abbrev score : Float
        score = next_score S (from + i + 1 - start) (forward_of b) v

        turned : (after : List Place)
            → forward_from S limit (decoded part ++ after) (from + 1 - start) from (forward_of a) counts₀
            ≡ cond (lt limit score) (record { sums = forward_of b'; counts = counts' })
            (forward_from S limit (drop (i + 1) (decoded part) ++ after) (from + (i + 1) + 1 - start) (from + (i + 1)) (forward_of b') counts')
        turned after =
            let e : Place = decode entry in
            let z : v ≡ value S counts e = k.value_is ∙ ap (λ (g : List ℕ). counted_value S.ln g e) k.counts_are ∙ raised_value S counts e (decode_below (length counts) entry entry_below) in
            let l : from + (i + 1) + 1 - start ≡ from + i + 1 - start + 1 = omega arith in
            let m : from + (i + 1) ≡ from + i + 1 = omega arith in
            c.rest after ∙ ap (λ (es : List Place). forward_from S limit (es ++ after) (from + i + 1 - start) (from + i) (forward_of b) counts) (rest_cons part i h)
            ∙ forward_turn S limit (drop (i + 1) (decoded part) ++ after) (from + i + 1 - start) (from + i) (forward_of b) counts e v z
            ∙ rw (l, m, judged, k.counts_are)

        pub forwarding_turn : b'.done ≡ b.done → lt limit score ≡ false → Forwarding S limit start from part a counts₀ (i + 1) b' counts'
        forwarding_turn d t =
            let m : from + i + 1 ≡ from + (i + 1) = omega arith in
            record {
              inside = omega arith;
              same = ap length k.counts_are ∙ raise_length counts (decode entry) ∙ c.same;
              going = d ∙ c.going;
              few = subst (λ (z : ℕ). UpTo z counts') m (subst (λ (g : List ℕ). UpTo (from + i + 1) g) (sym k.counts_are) (up_to_raise counts (decode entry) (from + i) c.few));
              rest = λ after. turned after ∙ rw t;
            }

        pub forwarding_stop : (b'' : ForwardState) → forward_of b'' ≡ forward_of b' → b''.done ≡ true → lt limit score ≡ true → ForwardPart S limit start from (decoded part) a b'' counts₀ counts'
        forwarding_stop b'' e d t =
            record {
              scanned = λ after. turned after ∙ rw (t, d, e);
              few = λ g. absurd (let z : ◌≡◌ {A = Bool} true false = sym d ∙ g in true≢false z);
            }

cond_same : (b : Bool) (x : Forward) → cond b x x ≡ x
cond_same true x = refl
cond_same false x = refl

-- ---- Both straight parts: the whole scan.
module _ (p : Params) (ln f : List Float) (q older newer : List Place) (len start : ℕ) (l : length q ≡ len) (parts : drop start q ≡ older ++ (newer ++ drop len q)) (max_back limit : Float) (e : limit ≡ max_back ⊕ slack)
    (a b : ForwardState) (counts₀ counts : List ℕ) (fresh : forward_of a ≡ forward_start) (clear : counts₀ ≡ replicate (4 ^ p.kmer) 0)
    (part : ForwardPart (setup_of p ln f) limit start start older a b counts₀ counts) where
  abbrev S : Setup
  S = setup_of p ln f

  first : dust_forward S q start max_back
      ≡ cond b.done (record { sums = forward_of b; counts = counts }) (forward_from S limit (newer ++ drop len q) (start + length older + 1 - start) (start + length older) (forward_of b) counts)
  unfolding dust_forward
  first =
      let one : start + 1 - start ≡ 1 = omega arith in
      rw (← fresh, ← clear, ← e) (ap (λ (n : ℕ). forward_from S limit (drop start q) n start (forward_of a) counts₀) (sym one)
      ∙ ap (λ (z : List Place). forward_from S limit z (start + 1 - start) start (forward_of a) counts₀) parts ∙ part.scanned (newer ++ drop len q))

  pub forward_stopped : b.done ≡ true → Finds (dust_forward S q start max_back) b counts
  forward_stopped d = rw (first, d) (record { sums_are = refl; counts_are = refl })

  pub forward_both : b.done ≡ false → (from : ℕ) → from ≡ start + length older → (c : ForwardState) (counts' : List ℕ) → ForwardPart S limit start from newer b c counts counts' → Finds (dust_forward S q start max_back) c counts'
  unfolding forward_from
  forward_both d from from_is c counts' next =
      let last : drop len q ≡ [] = drop_of_length-le q {i = len} (omega arith) in
      let all : dust_forward S q start max_back ≡ record { sums = forward_of c; counts = counts' } =
      rw (first, d, ← from_is) (next.scanned (drop len q) ∙ rw last (cond_same c.done (record { sums = forward_of c; counts = counts' }))) in
      rw all (record { sums_are = refl; counts_are = refl })
