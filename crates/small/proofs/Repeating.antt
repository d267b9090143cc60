-- The search for a k-mer that stands at min_start_cnt places or more; a sequence without one has no mask, whatever the tables are.
use Rattle.std.proofs.Common.{ℕ, suc, ◌+◌, ◌^◌, ◌/◌, ◌%◌, ◌≤◌, ◌<◌, ◌≡◌, refl, ap, ◌∙◌, subst, Bool, true, false, List, [], ◌∷◌, ◌++◌, Option, IfSome, arith, length, get_or, take, drop, replicate, length-take, take_all, take_at, take-suc, eqb}
use borrow.Author.Tests.{eqb-true, eqb-false}
use Rattle.buffers.specs.Fill.{put}
use Rattle.letters.specs.declared.Kmer.{Kmer}
use Rattle.letters.specs.Code.{codes, reverse_complement}
use Rattle.letters.specs.Place.{Place, ambiguous, plain, BelowAt, places, place_at}
use Rattle.letters.specs.Terms.Entry.{decode}
use Rattle.letters.specs.Terms.Rolling.{no_letter, rolled_on, kmer_after, entry_of}
use Rattle.letters.proofs.Codes.{codes_length, reverse_complement_length}
use Rattle.letters.proofs.Places.{places_length, places_at, place_below}
use Rattle.letters.proofs.Rolling.{kmer_none, kmer_next, value_small, entry_below, entry_place}
use Rattle.scans.specs.Setup.{Setup}
use Rattle.scans.specs.Counts.{count, raise}
use Rattle.scans.specs.Terms.Window.{raised_count}
use Rattle.scans.proofs.Counting.{hit_self, hit_other, count_le, count_snoc, raise_counted, cleared_counted}
use Rattle.step.specs.Step.{intervals_of}
use Rattle.step.proofs.Quiet.{quiet_intervals}
use Rattle.intervals.specs.declared.Interval.{Interval}
use Rattle.intervals.specs.Merge.{interleave, nonempty, join, merge, backwards}
use Rattle.longdust.specs.declared.LongdustOptions.{LongdustOptions}
use Rattle.longdust.specs.Mask.{setup, mask}
use Rattle.mask.specs.Mask.{mask_of}
use Rattle.small.specs.Bytes.{bytes_of}
use Rattle.small.specs.Call.{filled_mask}
use Rattle.small.specs.Run.{Asked}
use Rattle.small.specs.Terms.Quiet.{Few, Counting}
use Rattle.small.proofs.Profile.{window_some}
use Rattle.small.proofs.Profile.{kmer_fits, kmers_fit, letters_fit, twice}

-- ---- The counts of the places.
below_more : {m n : ℕ} (e : Place) → m ≤ n → BelowAt m e → BelowAt n e
below_more ambiguous h b = tt
below_more (plain x) h b = omega arith

module _ (k least : ℕ) (s : List ℕ) where
  abbrev ps : List Place
  ps = places k s

  pub counting_start : 0 < least → Counting k least s 0 no_letter (replicate 4096 0)
  counting_start h = record { inside = omega arith; kmer_is = kmer_none k s; counted = cleared_counted 4096; few = record { at = λ x. h } }

  module _ {i : ℕ} {q : Kmer} {counts : List ℕ} (c : Counting k least s i q counts) where
    pub counting_end : length s ≤ i → Few least ps
    counting_end h = subst (λ (l : List Place). Few least l) (take_all i ps (omega (arith, places_length k s))) c.few

    -- No count is above the number of places counted.
    count_small : (x : ℕ) → get_or counts x 0 ≤ i
    count_small x = omega (arith, c.counted.counted x, count_le x (take i ps), length-take i ps)

    -- The next letter is read.
    module _ (h : i < length s) (q' : Kmer) (r : q' ≡ rolled_on k q (get_or s i 0)) where
      next_kmer : q' ≡ kmer_after k s (i + 1)
      next_kmer = kmer_next k s i q c.kmer_is q' h r

      pub next_small : k ≤ 12 → q'.value < 16777216
      next_small l = value_small k s (i + 1) q' next_kmer l

      one_more : take (i + 1) ps ≡ take i ps ++ place_at k s i ∷ []
      one_more =
          ap (λ (n : ℕ). take n ps) (let e : i + 1 ≡ suc i = omega arith in e)
          ∙ take-suc ps i ambiguous (omega (arith, places_length k s))
          ∙ ap (λ (e : Place). take i ps ++ e ∷ []) (places_at k s i h)

      module _ (few_kmers : 4 ^ k ≤ 4096) (e : ℕ) (entry_is : e ≡ entry_of k q') where
        pub next_counted : length s ≤ 4096 → (e / 2 < length counts) × (e % 2 ≡ 0 → get_or counts (e / 2) 0 < 65535)
        next_counted l =
            (rw entry_is (omega (arith, entry_below k s (i + 1) q' next_kmer, c.counted.long)), λ p. omega (arith, count_small (e / 2)))

        place : decode e ≡ place_at k s i
        place = ap decode entry_is ∙ entry_place k s i q' next_kmer

        module _ (counts' : List ℕ) (counts_are : counts' ≡ raise counts (decode e)) (given : Option ℕ) (raised : given ≡ raised_count counts (decode e))
            (l : IfSome given (λ n. n < least)) where
          few_at : (e : Place) → IfSome (raised_count counts e) (λ n. n < least) → (x : ℕ) → count x (take i ps ++ e ∷ []) < least
          few_at ambiguous p x = omega (arith, count_snoc x (take i ps) ambiguous, c.few.at x)
          few_at (plain y) p x = go (eqb x y) refl
            where
              go : (b : Bool) → eqb x y ≡ b → count x (take i ps ++ plain y ∷ []) < least
              go true e = rw (eqb-true x y e) (omega (arith, p, c.counted.counted y, count_snoc y (take i ps) (plain y), hit_self y))
              go false e = omega (arith, count_snoc x (take i ps) (plain y), hit_other x y (eqb-false x y e), c.few.at x)

          pub counting_turn : Counting k least s (i + 1) q' counts'
          counting_turn =
              record {
                inside = omega arith;
                kmer_is = next_kmer;
                counted = rw (one_more, counts_are, place)
                    (raise_counted 4096 counts (take i ps) (place_at k s i) (below_more (place_at k s i) few_kmers (place_below k s i)) c.counted);
                few = rw one_more (record { at = few_at (place_at k s i) (subst (λ (z : Option ℕ). IfSome z (λ n. n < least)) (raised ∙ ap (λ (e : Place). raised_count counts e) place) l) });
              }

-- ---- No mask.
strand_none : (S : Setup) → 0 < S.window_size → (s : List ℕ) → Few S.min_start_cnt (places S.kmer s) → intervals_of S s ≡ []
unfolding intervals_of
strand_none S some s f = quiet_intervals S some (places S.kmer s) f.at

masks_none : (S : Setup) → 0 < S.window_size → (s : List ℕ) → Few S.min_start_cnt (places S.kmer s) → (b : Bool)
    → (b ≡ false → Few S.min_start_cnt (places S.kmer (reverse_complement s))) → mask_of S b s ≡ []
unfolding mask_of merge interleave join nonempty backwards
masks_none S some s f true r = strand_none S some s f
masks_none S some s f false r = rw (strand_none S some s f, strand_none S some (reverse_complement s) (r refl))

module _ {o : LongdustOptions} {s : List ℕ} (a : Asked o s) where
  abbrev k : ℕ
  k = o.kmer

  abbrev n : ℕ
  n = length s

  abbrev least : ℕ
  least = o.min_start_cnt

  -- The codes in the front of a buffer.
  module _ (d codes' : List ℕ) (e : codes' ≡ put (codes s) d) where
    front : take n codes' ≡ codes s
    front = ap (λ (l : List ℕ). take n l) e ∙ take_at (codes s) (drop (length (codes s)) d) n (codes_length s)

    pub forward_few : Few least (places k (take n codes')) → Few least (places k (codes s))
    forward_few f = subst (λ (l : List ℕ). Few least (places k l)) front f

    pub reverse_few : (d₂ other : List ℕ) → other ≡ put (reverse_complement (take n codes')) d₂ → Few least (places k (take n other)) → Few least (places k (reverse_complement (codes s)))
    reverse_few d₂ other e₂ f =
        let r : List ℕ = reverse_complement (codes s) in
        let other_is : other ≡ put r d₂ = e₂ ∙ ap (λ (l : List ℕ). put (reverse_complement l) d₂) front in
        subst (λ (l : List ℕ). Few least (places k l))
        (ap (λ (l : List ℕ). take n l) other_is ∙ take_at r (drop (length r) d₂) n (reverse_complement_length (codes s) ∙ codes_length s)) f

  -- Neither strand that is scanned is searched from.
  pub quiet_mask : Few least (places k (codes s)) → (o.forward_only ≡ false → Few least (places k (reverse_complement (codes s)))) → filled_mask o s ≡ []
  unfolding filled_mask mask setup
  quiet_mask f r = masks_none (setup o _ _) (window_some a) (codes s) f o.forward_only r

-- No interval has no bytes.
pub none_written : (is : List Interval) (d : List ℕ) → is ≡ [] → (0 ≡ length is) × (d ≡ put (bytes_of is) d)
unfolding bytes_of
none_written is d e = rw e (refl, refl)

-- The laws by which `is_quiet` is proved.
pub ruleset quiet = (kmer_fits, kmers_fit, letters_fit, twice, forward_few, reverse_few, quiet_mask)
