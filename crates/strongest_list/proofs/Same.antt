-- A stretch without a barred letter scores by the buffer's codes as by the sequence.
use Rattle.std.proofs.Common.{◌≡◌, ℕ, ◌+◌, ◌-◌, ◌<◌, ◌≤◌, min, List, length, get_or, drop, Option, None, Some, option_map, refl, sym, ap, ◌∙◌, arith, ext_get_or, get_or-take, get_or-drop}
use Rattle.buffers.proofs.At.{default_free}
use Rattle.letters.specs.Code.{codes}
use Rattle.letters.specs.Place.{Place, places}
use Rattle.letters.proofs.Codes.{codes_length}
use Rattle.scans.specs.Score.{stretch}
use Rattle.strongest.specs.Strongest.{score_of}
use Rattle.strongest.specs.Terms.Reading.{back_to}
use Rattle.strongest.proofs.Backward.{part, part_length, back_stretch}
use Rattle.strongest_list.specs.declared.Request.{Request}
use Rattle.strongest_list.specs.declared.search.Candidate.{Candidate}
use Rattle.strongest_list.specs.Stretches.{Stretch, score_in}
use Rattle.strongest_list.specs.Terms.Best.{score_of_codes, Eligible, AllExact, Picks, stretch_of}
use Rattle.strongest_list.specs.Terms.Tiles.{Agrees, true_score}
use Rattle.strongest_list.proofs.Choosing.{chosen_as}

module _ (q : Request) (cs : List ℕ) (G : Agrees q cs) (some : 0 < q.kmer) where
  module _ (s : Stretch) (size_some : 0 < s.size) (within : s.first + s.size ≤ length cs) (F : (x : ℕ) → s.first + 1 ≤ x + q.kmer → x < s.first + s.size → get_or cs x 5 < 5) where
    abbrev b : ℕ
    b = s.first + s.size - 1

    abbrev m : ℕ
    m = min (s.size + q.kmer - 1) (b + 1)

    abbrev from : ℕ
    from = b + 1 - m

    same_part : part cs from m ≡ part (codes q.sequence.now) from m
    same_part =
        let n = codes_length q.sequence.now in
        let l1 = part_length cs from m (omega arith) in
        let l2 = part_length (codes q.sequence.now) from m (omega (arith, G.long)) in
        ext_get_or 4 (part cs from m) (part (codes q.sequence.now) from m) (l1 ∙ sym l2)
        (λ x h.
        let j : x < m = omega arith in
        get_or-take m (drop from cs) x 4 j ∙ get_or-drop from cs x 4
        ∙ default_free cs (from + x) 4 5 (omega arith)
        ∙ G.at (from + x) (omega arith) (F (from + x) (omega arith) (omega arith))
        ∙ sym (get_or-take m (drop from (codes q.sequence.now)) x 4 j ∙ get_or-drop from (codes q.sequence.now) x 4))

    same_stretch : stretch (places q.kmer cs) s.first s.size ≡ stretch (places q.kmer (codes q.sequence.now)) s.first s.size
    same_stretch =
        let n = codes_length q.sequence.now in
        let e : b + 1 - s.size ≡ s.first = omega arith in
        ap (λ (f : ℕ). stretch (places q.kmer cs) f s.size) (sym e)
        ∙ sym (back_stretch q.kmer cs b s.size m from (omega arith) some (omega arith) refl refl s.size (omega arith))
        ∙ ap (λ (p : List ℕ). back_to q.kmer p s.size) same_part
        ∙ back_stretch q.kmer (codes q.sequence.now) b s.size m from (omega (arith, G.long)) some (omega arith) refl refl s.size (omega arith)
        ∙ ap (λ (f : ℕ). stretch (places q.kmer (codes q.sequence.now)) f s.size) e

    pub scored_alike : true_score q s ≡ score_of_codes q cs s
    unfolding score_in
    scored_alike = ap (λ (p : List Place). score_of q.kmer q.scoring.threshold q.scoring.ln.now q.scoring.f.now p) (sym same_stretch)

  pub eligible_alike : (s : Stretch) → Eligible q cs s → true_score q s ≡ score_of_codes q cs s
  eligible_alike s e = scored_alike s e.some e.within e.free

  pub picks_true : (P : Stretch → Type 0) (o : Option Candidate) → ((s : Stretch) → P s → Eligible q cs s) → Picks (score_of_codes q cs) P o → Picks (true_score q) P o
  picks_true P o f h = record { chosen = chosen_as (score_of_codes q cs) (true_score q) P P (option_map stretch_of o) (λ s p. p) (λ s p. p) (λ s p. eligible_alike s (f s p)) h.chosen; exact = by o h }
    where
      by : (o : Option Candidate) → Picks (score_of_codes q cs) P o → AllExact (true_score q) o
      by None h = tt
      by (Some c) h = record { is = eligible_alike (stretch_of c) (f (stretch_of c) h.chosen.0) ∙ h.exact.is; gain_small = h.exact.gain_small; loss_small = h.exact.loss_small }
