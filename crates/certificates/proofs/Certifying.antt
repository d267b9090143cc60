-- The making of a certificate in the code: an entry read, the loops over the entries newer and older than the start, and what they give together.
use Rattle.std.proofs.Common.{◌≡◌, refl, sym, ap, ◌∙◌, subst, Bool, true, false, not, ◌&&◌, List, [], ◌∷◌, ◌⊎◌, inl, inr, ℕ, suc, ◌+◌, ◌-◌, ◌/◌, ◌^◌, ◌≤◌, ◌<◌, Option, Some, None, IfSome, arith, length, get_or, drop, replicate, length-drop, drop-cons, T, leb, leb→le, le→leb, Float}
use lib.ListN.{length-replicate}
use lib.Seq.{drop-length}
use lib.Ieee.{nan, le, lt, neg}
use lib.Ieee.Fits.{and_l, and_r}
use Rattle.floats.specs.Arithmetic.{◌⊕◌, ◌⊖◌}
use Rattle.floats.specs.Binary64.{zero64, two_to20}
use Rattle.floats.proofs.Range.{ranged_20}
use Rattle.letters.specs.Place.{Place, ambiguous, Below}
use Rattle.letters.specs.Terms.Entry.{decode}
use Rattle.search.specs.declared.Certificate.{Certificate}
use Rattle.scans.specs.declared.Params.{Params}
use Rattle.certificates.specs.declared.certify.Reading.{Reading}
use Rattle.certificates.specs.declared.certify.Middle.{Middle}
use Rattle.certificates.specs.declared.certify.Newer.{Newer}
use Rattle.certificates.specs.declared.certify.Older.{Older}
use Rattle.certificates.specs.declared.certify.Attempt.{Attempt}
use Rattle.scans.specs.Setup.{Setup, f_at, kmers}
use Rattle.scans.specs.Counts.{count}
use Rattle.scans.specs.Terms.Numbers.{setup_of}
use Rattle.scans.specs.Terms.Counted.{Counted, Touched}
use Rattle.scans.specs.Terms.Window.{At, ring_index, window, CountsEntry}
use Rattle.scans.specs.Terms.Shape.{Shaped}
use Rattle.scans.specs.Terms.Parts.{Queued, Ringed}
use Rattle.scans.specs.Terms.Units.{distance}
use Rattle.search.specs.Terms.Certified.{StartUnits, Bounds}
use Rattle.certificates.specs.Terms.Made.{Making, Summed, none_read, read_of, near_most, Reads, no_middle, middle_of, Steady, ReadsNewer, older_of, OlderUnits, ReadsOlder, Able, certificate_of, Attempts}
use Rattle.scans.proofs.Test.{by_test}
use Rattle.scans.proofs.Counting.{count_le, count_snoc, below_drop, raise_counted, cleared_counted}
use Rattle.scans.proofs.Rings.{ring_index_at, queue_at, window_at, window_length}
use Rattle.scans.proofs.Values.{raised_value}
use Rattle.scans.proofs.Touched.{counted_touched}
use Rattle.scans.proofs.Walk.{queued_below, queued_as, ringed_as}
use Rattle.scans.proofs.Exact.{added}
use Rattle.scans.proofs.Gain.{InRange}
use Rattle.scans.proofs.FloatScore.{value_added}
use Rattle.scans.proofs.Shape.{usual_range}
use Rattle.search.proofs.CertificateLow.{order_of}
use Rattle.certificates.proofs.Making.{added_at, reads_none, reads_next, steady_none, steady_next, above_middle, summed_next, Olds, olds_none, olds_next, olds_stopped, olds_ended}

-- ---- An entry is read, which stands at index `at` of the ring.
module _ (ring : List ℕ) (head len m : ℕ) (r : Queued ring head len m) (i : ℕ) (h : i < len) (at : ℕ) (a : at ≡ ring_index (length ring) head i) where
  entry_at : At (length ring) head i at
  entry_at = rw a (ring_index_at (length ring) head i r.head_in (omega (arith, r.len_in)))

  pub entry_below : get_or ring at 0 / 2 < m
  entry_below = subst (λ (z : ℕ). z / 2 < m) (queue_at ring head len i at r.head_in r.len_in h entry_at) (r.below i h)

  pub entry_count : (counts : List ℕ) → Counted m counts (drop (i + 1) (window ring head len)) → (x : ℕ) → get_or counts x 0 + i < len
  entry_count counts c x =
      let es : List Place = drop (i + 1) (window ring head len) in
      omega (arith, c.counted x, count_le x es, length-drop (i + 1) (window ring head len), window_length ring head len r.head_in r.len_in)

  pub entry_counts : (ln : List Float) (counts : List ℕ) (v : Float) (counts' : List ℕ) → CountsEntry ln counts (decode (get_or ring at 0)) v counts'
      → CountsEntry ln counts (get_or (window ring head len) i ambiguous) v counts'
  entry_counts ln counts v counts' c =
      subst (λ (e : Place). CountsEntry ln counts e v counts') (sym (window_at ring head len i at r.head_in r.len_in h entry_at)) c

-- ---- Its counts, and what it adds to the entries after it.
module _ (S : Setup) (R : InRange S) (q : List Place) (b : Below (kmers S) q) (i : ℕ) (h : i < length q) (counts : List ℕ) (c : Counted (kmers S) counts (drop (suc i) q))
    (v : Float) (counts' : List ℕ) (k : CountsEntry S.ln counts (get_or q i ambiguous) v counts') where
  abbrev e : Place
  e = get_or q i ambiguous

  abbrev es : List Place
  es = drop (suc i) q

  cons : drop i q ≡ e ∷ es
  cons = drop-cons q i ambiguous h

  below : Below (kmers S) (e ∷ es)
  below = subst (Below (kmers S)) cons (below_drop (kmers S) i q b)

  pub counted_next : Counted (kmers S) counts' (drop i q)
  counted_next =
      let r = raise_counted (kmers S) counts es e below.0 c in
      rw k.counts_are (record { long = r.long; counted = λ x. r.counted x ∙ count_snoc x es e ∙ ap (λ (z : List Place). count x z) (sym cons) })

  pub value_next : v ≡ added S es e
  value_next =
      let r : length counts ≡ kmers S = c.long in
      k.value_is ∙ rw k.counts_are (raised_value S counts e (rw r below.0) ∙ value_added S R counts es e c)

-- ---- The loop over the entries newer than the start.
not_within : (a b : ℕ) → T (not (leb a b)) → b < a
not_within a b t = go (order_of b a)
  where
    never : (x : Bool) → T x → T (not x) → ⊥
    never true y n = n
    never false y n = y

    go : (b < a) ⊎ (a ≤ b) → b < a
    go (inl o) = o
    go (inr o) = absurd (never (leb a b) (le→leb a b o) t)

read_at : (a : Reading) (i : ℕ) (v s score : Float) (near : Bool) → (read_of a i v s score near).at ≡ i
read_at a i v s score true = refl
read_at a i v s score false = refl

-- The entries from index `at` on are read, and a certificate may still be made.
pub record NewerRead (p : Params) (q : List Place) (ln f : List Float) (start m : ℕ) (reach : Float) (at : ℕ) (a : Reading) (b : Middle) (counts : List ℕ) : Type 0 where
  pub here : a.at ≡ at
  pub reach_is : reach ≡ p.drop_limit ⊖ distance
  pub counted : Counted (4 ^ p.kmer) counts (drop a.at q)
  pub reads : Reads (setup_of p ln f) q a
  pub before : start < a.at
  pub steady : Steady (setup_of p ln f) q m a.at b

-- The entries from index `at` on are read, and older ones may matter; `top` is the start's score.
pub record OlderRead (p : Params) (q : List Place) (ln f : List Float) (start : ℕ) (s top : Float) (at : ℕ) (a : Older) (counts : List ℕ) : Type 0 where
  pub here : a.at ≡ at
  pub top_is : top ≡ s ⊖ get_or f (length q - start) nan
  pub counted : Counted (4 ^ p.kmer) counts (drop a.at q)
  pub olds : Olds (setup_of p ln f) q start a

module _ (p : Params) (ring : List ℕ) (head len : ℕ) (ln f : List Float) (c₀ : ℕ) (w : Making p ring head len ln f c₀) where
  abbrev S : Setup
  S = setup_of p ln f

  abbrev q : List Place
  q = window ring head len

  abbrev R : InRange S
  R = usual_range w.able.usual

  pub long : length q ≡ len
  long = window_length ring head len w.ringed.queued.head_in w.ringed.queued.len_in

  q_below : Below (kmers S) q
  q_below = queued_below (queued_as (kmers S) (sym w.counts_are) w.ringed.queued)

  in_window : length q ≤ S.window_size
  in_window = omega (arith, long, w.ringed.queued.len_in, w.ring_is)

  module _ (start m : ℕ) (start_in : start < len) (room : len + m ≤ start + p.window_size) where
    pub newer_start : (counts : List ℕ) → length counts ≡ c₀ → counts ≡ replicate (length counts) 0 → (a : Reading) → a ≡ none_read len → (b : Middle) → b ≡ no_middle len
        → NewerRead p q ln f start m (p.drop_limit ⊖ distance) len a b counts
    newer_start counts same clear a ea b eb =
        let none : drop len q ≡ [] = subst (λ (z : ℕ). drop z q ≡ []) long (drop-length q) in
        let many : length counts ≡ kmers S = same ∙ w.counts_are in
        let counted : Counted (kmers S) counts (drop len q) =
        rw none (subst (λ (z : List ℕ). Counted (kmers S) z []) (sym (clear ∙ ap (λ (z : ℕ). replicate z 0) many)) (cleared_counted (kmers S))) in
        rw (ea, eb)
        (record {
          here = refl;
          reach_is = refl;
          counted = counted;
          reads = subst (λ (z : ℕ). Reads S q (none_read z)) long (reads_none S R q q_below in_window);
          before = start_in;
          steady = subst (λ (z : ℕ). Steady S q m z (no_middle z)) long (steady_none S R q q_below in_window m);
        })

    module _ (reach : Float) (at : ℕ) (a : Reading) (b : Middle) (counts : List ℕ) (k : NewerRead p q ln f start m reach at a b counts) where
      pub newer_inside : a.at ≤ len
      newer_inside = omega (arith, k.reads.inside, long)

      pub newer_end : at ≤ start + 1 → ReadsNewer S q start m (record { reading = a; middle = Some b }) counts
      newer_end h =
          let e : a.at ≡ suc start = omega (arith, k.here, k.before) in
          record { counted = k.counted; reads = k.reads; before = k.before; steady = (e, subst (λ (z : ℕ). Steady S q m z b) e k.steady) }

      module _ (more : start + 1 < at) where
        abbrev i : ℕ
        i = at - 1

        abbrev l : ℕ
        l = len - i

        here : a.at ≡ suc i
        here = omega (arith, k.here)

        i_in : i < len
        i_in = omega (arith, here, newer_inside)

        at_end : i + l ≡ length q
        at_end = omega (arith, i_in, long)

        module _ (v : Float) (counts' : List ℕ) (taken : CountsEntry ln counts (get_or q i ambiguous) v counts')
            (a' : Reading) (ea : a' ≡ read_of a i v (a.s ⊕ (v ⊖ p.score_threshold)) (a.s ⊕ (v ⊖ p.score_threshold) ⊖ get_or f l nan) (leb l near_most))
            (c : Option Middle) (ec : c ≡ middle_of b a' (a'.s ⊖ get_or f (l + m) nan) reach) where
          counted_here : Counted (kmers S) counts (drop (suc i) q)
          counted_here = subst (λ (z : ℕ). Counted (kmers S) counts (drop z q)) here k.counted

          at_is : a'.at ≡ i
          at_is = ap (λ (x : Reading). x.at) ea ∙ read_at a i v _ _ (leb l near_most)

          counted_more : Counted (kmers S) counts' (drop a'.at q)
          counted_more = rw at_is (counted_next S R q q_below i (omega (arith, i_in, long)) counts counted_here v counts' taken)

          reads_more : Reads S q a'
          reads_more =
              rw ea
              (reads_next S R q q_below in_window a i l at_end here v (value_next S R q q_below i (omega (arith, i_in, long)) counts counted_here v counts' taken) k.reads (leb l near_most) (leb→le l near_most) (not_within l near_most))

          pub newer_next : (b' : Middle) → c ≡ Some b' → NewerRead p q ln f start m reach i a' b' counts'
          newer_next b' is =
              let e : a.at ≡ suc a'.at = here ∙ ap suc (sym at_is) in
              let was : Steady S q m (suc a'.at) b = subst (λ (z : ℕ). Steady S q m z b) e k.steady in
              let r : Float = p.drop_limit ⊖ distance in
              let ec' : c ≡ middle_of b a' (a'.s ⊖ get_or f (l + m) nan) r = ec ∙ ap (λ (x : Float). middle_of b a' (a'.s ⊖ get_or f (l + m) nan) x) k.reach_is in
              let st = steady_next S R q q_below in_window w.drop_ranged m a' l (omega (arith, at_is, at_end)) (omega (arith, i_in)) (omega (arith, i_in)) reads_more b was in
              record {
                here = at_is;
                reach_is = k.reach_is;
                counted = counted_more;
                reads = reads_more;
                before = omega (arith, at_is);
                steady = subst (λ (x : Option Middle). IfSome x (Steady S q m a'.at)) (sym ec' ∙ is) st;
              }

          pub newer_stop : ReadsNewer S q start m (record { reading = a'; middle = None }) counts'
          newer_stop = record { counted = counted_more; reads = reads_more; before = omega (arith, at_is); steady = tt }

  -- ---- The loop over the entries older than the start.
  module _ (start : ℕ) (start_in : start < len) (s : Float) (summed : Summed S (drop start q) s) where
    pub older_start : (counts : List ℕ) → Counted c₀ counts (drop start q) → OlderRead p q ln f start s (s ⊖ get_or f (len - start) nan) start (record { at = start; s = s; gap = two_to20; done = false }) counts
    older_start counts c =
        record {
          here = refl;
          top_is = rw long;
          counted = subst (λ (z : ℕ). Counted z counts (drop start q)) w.counts_are c;
          olds = olds_none S R q q_below in_window start (omega (arith, long)) s summed;
        }

    module _ (top : Float) (at : ℕ) (a : Older) (counts : List ℕ) (k : OlderRead p q ln f start s top at a counts) where
      pub older_end : at ≡ 0 → ReadsOlder S q start a counts
      older_end e =
          record { counted = k.counted; inside = k.olds.inside; older = olds_ended S R q q_below in_window start (omega (arith, long)) s summed a (k.here ∙ e) k.olds }

      module _ (more : 0 < at) where
        abbrev i' : ℕ
        i' = at - 1

        abbrev l' : ℕ
        l' = len - i'

        here' : a.at ≡ suc i'
        here' = omega (arith, k.here)

        pub older_in : i' < len
        older_in = omega (arith, here', k.olds.inside)

        at_end' : i' + l' ≡ length q
        at_end' = omega (arith, older_in, long)

        module _ (v : Float) (counts' : List ℕ) (taken : CountsEntry ln counts (get_or q i' ambiguous) v counts')
            (a' : Older) (ea : a' ≡ older_of a i' (a.s ⊕ (v ⊖ p.score_threshold)) (top ⊖ (a.s ⊕ (v ⊖ p.score_threshold) ⊖ get_or f l' nan)) p.drop_limit) where
          counted_here' : Counted (kmers S) counts (drop (suc i') q)
          counted_here' = subst (λ (z : ℕ). Counted (kmers S) counts (drop z q)) here' k.counted

          counted_more' : Counted (kmers S) counts' (drop i' q)
          counted_more' = counted_next S R q q_below i' (omega (arith, older_in, long)) counts counted_here' v counts' taken

          value : v ≡ added_at S R q q_below in_window i'
          value = value_next S R q q_below i' (omega (arith, older_in, long)) counts counted_here' v counts' taken

          abbrev s' : Float
          s' = a.s ⊕ (v ⊖ p.score_threshold)

          ea' : a' ≡ older_of a i' s' (s ⊖ f_at S (length q - start) ⊖ (s' ⊖ f_at S l')) p.drop_limit
          ea' = ea ∙ ap (λ (x : Float). older_of a i' s' (x ⊖ (s' ⊖ get_or f l' nan)) p.drop_limit) k.top_is

          pub older_next : OlderRead p q ln f start s top i' a' counts'
          older_next =
              rw ea'
              (record { here = refl; top_is = k.top_is; counted = counted_more'; olds = olds_next S R q q_below in_window start (omega (arith, long)) s summed a i' l' at_end' here' v value k.olds })

          pub older_stop : a'.done ≡ true → ReadsOlder S q start a' counts'
          older_stop done =
              subst (λ (x : Older). ReadsOlder S q start x counts') (sym ea')
              (record {
                counted = counted_more';
                inside = omega (arith, here', k.olds.inside);
                older = olds_stopped S R q q_below in_window start (omega (arith, long)) s summed a i' l' at_end' here' v value k.olds w.drop_ranged (sym (ap (λ (x : Older). x.done) ea') ∙ done);
              })

  -- ---- The certificate.
  making_as : (n : ℕ) → n ≡ c₀ → Making p ring head len ln f n
  making_as n e =
      record {
        ringed = ringed_as n e w.ringed;
        ring_is = w.ring_is;
        counts_are = e ∙ w.counts_are;
        able = w.able;
        drop_ranged = w.drop_ranged;
      }

  pub attempt_none : (start i : ℕ) (counts : List ℕ) → i ≤ length q → Counted (kmers S) counts (drop i q) → Attempts S q start (record { certificate = None; at = i }) counts
  attempt_none start i counts h k = record { inside = h; counted = k; made = tt }

  module _ (start m : ℕ) (start_in : start < len) (room : len + m ≤ start + p.window_size) (r : Newer) (counts : List ℕ) (k : ReadsNewer S q start m r counts) where
    module _ (b : Middle) (is : r.middle ≡ Some b) where
      steady : (r.reading.at ≡ suc start) × Steady S q m (suc start) b
      steady = subst (λ (x : Option Middle). IfSome x (λ c. (r.reading.at ≡ suc start) × Steady S q m (suc start) c)) is k.steady

      pub near_in : b.near ≤ len
      near_in = omega (arith, steady.1.low.within, long)

      module _ (v : Float) (counts' : List ℕ) (taken : CountsEntry ln counts (get_or q start ambiguous) v counts') where
        abbrev start_sum : Float
        start_sum = r.reading.s ⊕ (v ⊖ p.score_threshold)

        start_here : Counted (kmers S) counts (drop (suc start) q)
        start_here = subst (λ (z : ℕ). Counted (kmers S) counts (drop z q)) steady.0 k.counted

        start_counted : Counted (kmers S) counts' (drop start q)
        start_counted = counted_next S R q q_below start (omega (arith, long)) counts start_here v counts' taken

        pub start_summed : Summed S (drop start q) start_sum
        start_summed =
            summed_next S R q q_below in_window start (omega (arith, long)) r.reading.s v (value_next S R q q_below start (omega (arith, long)) counts start_here v counts' taken)
            (subst (λ (z : ℕ). Summed S (drop z q) r.reading.s) steady.0 k.reads.summed)

        pub older_begins : Making p ring head len ln f (length counts') × ((start < len) × Summed S (drop start q) start_sum × Counted (length counts') counts' (drop start q))
        older_begins =
            let many : kmers S ≡ length counts' = sym start_counted.long in (
              making_as (length counts') (start_counted.long ∙ sym w.counts_are),
              (start_in, start_summed, subst (λ (z : ℕ). Counted z counts' (drop start q)) many start_counted),
            )

        pub attempt_start : Attempts S q start (record { certificate = None; at = start }) counts'
        attempt_start = attempt_none start start counts' (omega (arith, long)) start_counted

        module _ (test : le (b.peak ⊕ distance) (start_sum ⊖ get_or f (len - start + m) nan) ≡ true) where
          steady_is : Steady S q m (suc start) b
          steady_is = steady.1

          units : (oldest : ℕ) (gap : Float) → OlderUnits S q start oldest gap → StartUnits S q start m 0 steady_is.low_from b.near b.h b.u gap
          units oldest gap o =
              record {
                low = steady_is.low;
                j_before = omega (arith, steady_is.from_low);
                room = omega (arith, long);
                steady = λ a k' i l at im ji ia to. steady_is.steady i l im (omega arith) a k' at ia to;
                above = λ a k' l at jl ja to.
                    let e : len - start ≡ l = omega (arith, long) in
                    above_middle S R q q_below in_window m start l start_sum jl (omega arith) (omega (arith, long)) start_summed b steady_is
                    (subst (λ (z : ℕ). T (le (b.peak ⊕ distance) (start_sum ⊖ get_or f (z + m) nan))) e (subst T (sym test) tt)) a k' at ja to;
                oldest = oldest;
                older = o.older;
                ends = o.ends;
                gap_kept = o.gap_kept;
              }

          bounds : (oldest : ℕ) (gap : Float) → T (lt b.u (neg distance)) → T (le distance gap) → OlderUnits S q start oldest gap → Bounds S q start (record { left = m; near = len - b.near; h = b.h; u = b.u; gap = gap })
          bounds oldest gap low high o =
              let e : b.near ≡ length q - (len - b.near) = omega (arith, long, near_in) in
              record {
                setup = w.able;
                joined = 0;
                low_from = steady_is.low_from;
                few = omega (arith, w.ringed.queued.small, w.ring_is);
                near_in = omega (arith, long);
                units = subst (λ (z : ℕ). StartUnits S q start m 0 steady_is.low_from z b.h b.u gap) e (units oldest gap o);
                u_below = low;
                gap_above = high;
              }

          pub attempt_made : (o : Older) (counts₂ : List ℕ) → ReadsOlder S q start o counts₂ → (c : Option Certificate) → c ≡ certificate_of b m len o.gap
              → Attempts S q start (record { certificate = c; at = o.at }) counts₂
          attempt_made o counts₂ k' c e =
              rw e
              (record {
                inside = omega (arith, k'.inside, long);
                counted = k'.counted;
                made =
                    by_test (λ (x : Option Certificate). IfSome x (λ d. (o.at ≤ start) × Bounds S q start d)) (lt b.u (neg distance) && le distance o.gap)
                    (Some (record { left = m; near = len - b.near; h = b.h; u = b.u; gap = o.gap })) None
                    (λ both.
                    let high = and_r (lt b.u (neg distance)) (le distance o.gap) both in
                    (k'.inside, bounds o.at o.gap (and_l (lt b.u (neg distance)) (le distance o.gap) both) high (k'.older high)))
                    (λ _. tt);
              })

-- ---- A certificate or none, by the code's tests.

module _ (p : Params) (ring : List ℕ) (head len : ℕ) (ln f : List Float) (counts₀ : List ℕ) (r : Ringed ring head len (length ln) (length f) (length counts₀))
    (ring_is : length ring ≡ p.window_size) (start : ℕ) (start_in : start < len) (clear : counts₀ ≡ replicate (4 ^ p.kmer) 0) (shaped : Shaped p ln f) where
  abbrev S₁ : Setup
  S₁ = setup_of p ln f

  abbrev q₁ : List Place
  q₁ = window ring head len

  many₀ : length counts₀ ≡ kmers S₁
  many₀ = ap length clear ∙ length-replicate (4 ^ p.kmer) 0

  pub making_begins : (told : Bool) → Able p ln told → told ≡ true → Making p ring head len ln f (length counts₀)
  making_begins told able on =
      let a : Bool = p.usual in
      let b : Bool = le (get_or ln 1 nan) zero64 in
      let c : Bool = le distance p.score_threshold in
      let d : Bool = le zero64 p.drop_limit in
      let e : Bool = le p.drop_limit two_to20 in
      let all : T (a && (b && (c && (d && e)))) = subst T (sym on ∙ able.told) tt in
      let rest = and_r a (b && (c && (d && e))) all in
      let more = and_r b (c && (d && e)) rest in
      let drops = and_r c (d && e) more in
      let ranged = ranged_20 p.drop_limit able.fitting (and_l d e drops) (and_r d e drops) in
      record {
        ringed = r;
        ring_is = ring_is;
        counts_are = many₀;
        able = record {
          usual = shaped.told (true_is a (and_l a (b && (c && (d && e))) all));
          ln_first = and_l b (c && (d && e)) rest;
          t_some = and_l c (d && e) more;
          drop_number = ranged.ok;
        };
        drop_ranged = ranged;
      }
    where
      true_is : (x : Bool) → T x → x ≡ true
      true_is true t = refl
      true_is false t = absurd t

  module _ (a : Attempt) (counts : List ℕ) (k : Attempts S₁ q₁ start a counts) where
    same : length counts ≡ length counts₀
    same = k.counted.long ∙ sym many₀

    pub clear_asks : Queued ring head len (length counts) × ((a.at ≤ len) × Touched counts (drop a.at q₁))
    clear_asks = (
      queued_as (length counts) same r.queued,
      (omega (arith, k.inside, window_length ring head len r.queued.head_in r.queued.len_in), counted_touched (kmers S₁) counts (drop a.at q₁) k.counted),
    )
