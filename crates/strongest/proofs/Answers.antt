-- A search over the codes of the letters that its places need gives the answer by definition.
use Rattle.std.proofs.Common.{◌≡◌, refl, sym, ap, ap₂, ◌∙◌, subst, cond, List, ℕ, zero, suc, ◌+◌, ◌-◌, ◌*◌, ◌^◌, ◌≤◌, ◌<◌, min, arith, eqb, length, take, drop, drop-drop, take_at, ℤ, pos, ◌+ℤ◌, ◌-ℤ◌}
use lib.Seq.{drop-append-add}
use Rattle.buffers.specs.Fill.{put}
use Rattle.buffers.specs.Free.{Free}
use Rattle.buffers.proofs.Put.{put_length}
use Rattle.floats.proofs.Whole.{Is, is_as, is_add, is_sub}
use Rattle.letters.specs.Code.{codes}
use Rattle.letters.specs.Place.{Place}
use Rattle.letters.proofs.Codes.{codes_length}
use Rattle.scans.specs.Score.{ln_sums}
use Rattle.strongest.specs.declared.scores.Reading.{Reading}
use Rattle.strongest.specs.Strongest.{Asked, steps, unread, up_to, entry, without_f, score_of, score_at, best_of, best, best_score, largest, gap_over, gap}
use Rattle.strongest.specs.Call.{Found}
use Rattle.strongest.specs.Terms.Reading.{back_to, scores_back, Narrow, Reads, ReadsPlaces, needed, codes_read, gap_of}
use Rattle.strongest.proofs.Order.{is_pos, difference_is, excess_is}
use Rattle.strongest.proofs.Admitting.{Admitted}
use Rattle.strongest.proofs.Largest.{largest_up}
use Rattle.strongest.proofs.Best.{best_within, best_same}
use Rattle.strongest.proofs.Backward.{part, part_length, codes_part, back_length, back_stretch}

-- Only the front of the buffer is written.
pub put_free : {A : Type 0} (m : ℕ) (xs d : List A) → length xs ≤ m → m ≤ length d → Free m d (put xs d)
put_free {A} m xs d h k =
    let e : m ≡ length xs + (m - length xs) = omega arith in
    record {
      long = put_length xs d (omega arith);
      past = ap (λ (n : ℕ). drop n (put xs d)) e ∙ drop-append-add xs (drop (length xs) d) (m - length xs) ∙ drop-drop (m - length xs) (length xs) d ∙ ap (λ (n : ℕ). drop n d) (sym e);
    }

-- ---- The letters that the places need, encoded over the front of the buffer d.
module _ (s d d' : List ℕ) (k end steps m : ℕ) (m_is : m ≡ needed k end steps) (fits : end ≤ length s) (room : length s ≤ length d)
    (e : d' ≡ put (codes (part s (end - m) (end - (end - m)))) d) where
  same : end - (end - m) ≡ m
  same = omega arith

  long : length (codes (part s (end - m) m)) ≡ m
  long = codes_length (part s (end - m) m) ∙ part_length s (end - m) m (omega arith)

  put_is : d' ≡ put (codes (part s (end - m) m)) d
  put_is = e ∙ ap (λ (n : ℕ). put (codes (part s (end - m) n)) d) same

  pub front_long : m ≤ length d'
  front_long = rw put_is (omega (arith, put_length (codes (part s (end - m) m)) d (omega (arith, long))))

  pub front_codes : take m d' ≡ codes_read s k end steps
  front_codes =
      ap (λ (l : List ℕ). take m l) put_is
      ∙ take_at (codes (part s (end - m) m)) (drop (length (codes (part s (end - m) m))) d) m long
      ∙ ap (λ (n : ℕ). codes (part s (end - n) n)) m_is

  pub front_free : Free (length s) d d'
  front_free = rw put_is (put_free (length s) (codes (part s (end - m) m)) d (omega (arith, long)) room)

module _ (Q : Asked) (inside : Q.place < length Q.sequence) (some : 0 < Q.kmer) (budget_some : 0 < Q.budget) (window_some : 0 < Q.window_size) where
  abbrev m : ℕ
  m = needed Q.kmer (Q.place + 1) (steps Q)

  abbrev cs : List ℕ
  cs = codes_read Q.sequence Q.kmer (Q.place + 1) (steps Q)

  -- The last places of these letters are those up to b.
  pub back_up : (l : ℕ) → l ≤ steps Q → back_to Q.kmer cs l ≡ up_to Q l
  back_up l h =
      let s : List ℕ = codes Q.sequence in
      ap (λ (c : List ℕ). back_to Q.kmer c l) (codes_part Q.sequence (Q.place + 1 - m) m)
      ∙ back_stretch Q.kmer s Q.place (steps Q) m (Q.place + 1 - m) (omega (arith, codes_length Q.sequence)) some (omega arith) refl refl l h

  abbrev s : ℕ → ℤ
  s = scores_back Q.kmer Q.threshold Q.ln Q.f cs

  score_up : (l : ℕ) → l ≤ steps Q → s l ≡ score_at Q l
  unfolding score_at
  score_up l h = ap (λ (q : List Place). score_of Q.kmer Q.threshold Q.ln Q.f q) (back_up l h)

  best_up : best_of s (steps Q) ≡ best Q
  best_up = best_same s (score_at Q) (steps Q) (λ l _ h. score_up l h)

  module _ (r : Reading) (R : Reads Q.kmer Q.threshold Q.ln Q.f cs (steps Q) r) where
    step : 0 < steps Q
    step = omega arith

    pub size_is : r.best.size ≡ best Q
    size_is = R.size step ∙ best_up

    pub within : r.best.size ≤ steps Q
    within = go (steps Q) step (R.size step)
      where
        go : (l : ℕ) → 0 < l → r.best.size ≡ best_of s l → r.best.size ≤ l
        go zero h e = absurd (let z : ⊥ = omega arith in z)
        go (suc l) h e = omega (arith, best_within s l)

    pub score_found : pos r.best.gain -ℤ pos r.best.loss ≡ best_score Q
    score_found = sym (R.best step) ∙ score_up r.best.size within ∙ ap (score_at Q) size_is

    pub gap_found : (rise : ℕ) → rise ≡ largest Q.ln Q.window_size - Q.threshold → gap_of r (steps Q) (unread Q) rise Q.threshold ≡ gap Q
    unfolding gap_over
    gap_found rise e =
        let t : ℕ = Q.threshold in
        let l : ℕ = steps Q in
        let more : ℕ = unread Q * rise in
        let q : List Place = up_to Q l in
        let sum : ln_sums (entry Q.ln) (4 ^ Q.kmer) q ≡ pos r.gain = ap (λ (p : List Place). ln_sums (entry Q.ln) (4 ^ Q.kmer) p) (sym (back_up l (omega arith))) ∙ R.gain in
        let long : length q ≡ l = ap (λ (p : List Place). length p) (sym (back_up l (omega arith))) ∙ back_length Q.kmer cs l in
        let read : Is (without_f Q.kmer t Q.ln q) r.gain (l * t) = rw (sum, long) (difference_is r.gain (l * t)) in
        let found : Is (best_score Q) r.best.gain r.best.loss = subst (λ (z : ℤ). Is z r.best.gain r.best.loss) score_found (difference_is r.best.gain r.best.loss) in
        let open_is = is_add (without_f Q.kmer t Q.ln q) (pos more) r.gain (l * t) more 0 read (is_pos more) in
        let all = is_sub (without_f Q.kmer t Q.ln q +ℤ pos more) (best_score Q) (r.gain + more) (l * t + 0) r.best.gain r.best.loss open_is found in
        let z : ℤ = without_f Q.kmer t Q.ln q +ℤ pos more -ℤ best_score Q in
        rw (sym e)
        (ap (λ (x : ℕ). cond (eqb (unread Q) 0) 0 x)
        (sym (excess_is z (r.gain + more + r.best.loss) (l * t + r.best.gain) (is_as z (r.gain + more + r.best.loss) (l * t + 0 + r.best.gain) (r.gain + more + r.best.loss) (l * t + r.best.gain) (omega arith) all))))

-- ---- An accepted request.
module _ (Q : Asked) (codes_len counts_len : ℕ) (A : Admitted Q codes_len counts_len) (av st : ℕ) (av_is : av ≡ min Q.window_size (Q.place + 1)) (st_is : st ≡ min Q.budget av) where
  st_steps : st ≡ steps Q
  st_steps = st_is ∙ ap (λ (n : ℕ). min Q.budget n) av_is

  pub bounds : (0 < st) × (st ≤ Q.place + 1) × (st ≤ Q.window_size) × (av ≤ 65535)
  bounds =
      let a = A.budget_some in
      let b = A.window_low in
      let h = A.window_high in
      (omega arith, omega arith, omega arith, omega arith)

  pub narrow : Narrow Q.threshold Q.ln Q.f st
  narrow =
      let b = bounds in
      record {
        ln_long = omega (arith, A.ln_long);
        f_long = omega (arith, A.f_long);
        t_small = A.threshold_small;
        ln_small = omega (arith, largest_up Q.ln st Q.window_size b.2, A.ln_small);
        f_small = omega (arith, largest_up Q.f st Q.window_size b.2, A.f_small);
      }

  module _ (cs cs' counts counts' : List ℕ) (r : Reading) (P : ReadsPlaces Q.sequence Q.kmer (Q.place + 1) st Q.threshold Q.ln Q.f r cs cs' counts counts') where
    read : Reads Q.kmer Q.threshold Q.ln Q.f (codes_read Q.sequence Q.kmer (Q.place + 1) (steps Q)) (steps Q) r
    read = subst (λ (n : ℕ). Reads Q.kmer Q.threshold Q.ln Q.f (codes_read Q.sequence Q.kmer (Q.place + 1) n) n r) st_steps P.reads

    window_some : 0 < Q.window_size
    window_some = omega (arith, A.window_low)

    pub small : (r.gain < 9007199254740992) × (r.best.gain < 9007199254740992) × (r.best.loss < 9007199254740992)
    small =
        let few : st ≤ 65535 = omega (arith, bounds, A.window_high) in
        (omega (arith, P.reads.gain_small), omega (arith, P.reads.best_small), P.reads.loss_small)

    pub size_within : r.best.size ≤ Q.place + 1
    size_within = omega (arith, within Q A.inside A.kmer_low A.budget_some window_some r read)

    pub found : (rise g : ℕ) (z : ℤ) → rise ≡ largest Q.ln Q.window_size - Q.threshold → z ≡ pos r.best.gain -ℤ pos r.best.loss
        → g ≡ gap_of r st (av - st) rise Q.threshold
        → Found Q cs cs' counts counts' (record { start = Q.place + 1 - r.best.size; score = z; steps = st; gap = g })
    found rise g z rise_is z_is g_is =
        record {
          start = ap (λ (n : ℕ). Q.place + 1 - n) (size_is Q A.inside A.kmer_low A.budget_some window_some r read);
          score = z_is ∙ score_found Q A.inside A.kmer_low A.budget_some window_some r read;
          steps = st_steps;
          gap = g_is ∙ ap₂ (λ (a n : ℕ). gap_of r n (a - n) rise Q.threshold) av_is st_steps ∙ gap_found Q A.inside A.kmer_low A.budget_some window_some r read rise rise_is;
          codes = P.codes;
          scan_counts = P.scan_counts;
        }
