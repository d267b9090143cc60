-- The backward scan put together: what the slice holds can be tried, and its outcome is the definition's.
use Rattle.std.proofs.Common.{◌≡◌, sym, ap, ap₂, ◌∙◌, subst, Bool, true, false, cond, List, [], ◌∷◌, ℕ, zero, suc, ◌<◌, ◌≤◌, arith, length, get_or, take, get_or-take, length-take-le, eqb}
use Rattle.letters.specs.Place.{Place}
use Rattle.scans.specs.declared.ForwardPosition.{ForwardPosition}
use Rattle.search.specs.declared.Scanned.{Scanned}
use Rattle.search.specs.declared.candidates.Searched.{Searched}
use Rattle.scans.specs.Setup.{Setup}
use Rattle.scans.specs.Counts.{cleared}
use Rattle.scans.specs.Scans.{none, Outcome, Candidate, no_candidate, backward_start, Backward, backward_from, with_best, try_from, tried, dust_backward}
use Rattle.search.specs.Terms.Search.{no_position, candidates_in, to_try, ScansBackward, HoldsCandidates}
use Rattle.search.specs.Terms.Carry.{Answers}
use Rattle.search.proofs.Noting.{AllBelow}
use Rattle.search.proofs.Slices.{candidates_length, candidates_at}
use Rattle.search.proofs.Searching.{to_try_fit}

pub below_at : (n : ℕ) (cs : List Candidate) (j : ℕ) → AllBelow n cs → j < length cs → (get_or cs j no_candidate).place < n
below_at n [] j h l = absurd (let b : ⊥ = omega arith in b)
below_at n (c ∷ cs) zero h l = h.0
below_at n (c ∷ cs) (suc j) h l = below_at n cs j h.1 (omega arith)

to_tried : (S : Setup) (q : List Place) (b : Backward) (r : Scanned) (counts : List ℕ) → Answers S q (try_from S q (to_try b) (length (to_try b)) 0 b.counts) r counts → Answers S q (tried S q b) r counts
unfolding tried try_from
to_tried S q b r counts t = go (eqb b.found 0) (with_best b.best b.found b.candidates) t
  where
    go : (e : Bool) (cs : List Candidate) → Answers S q (try_from S q (cond e [] cs) (length (cond e [] cs)) 0 b.counts) r counts
        → Answers S q (cond e (record { find = none; counts = b.counts }) (try_from S q cs (length cs) 0 b.counts)) r counts
    go true cs a = a
    go false cs a = a

-- What the front of the slice holds can be tried.
pub all_held : (S : Setup) (q : List Place) (len n : ℕ) (r : Searched) (counts : List ℕ) (records : List ForwardPosition) → ScansBackward S q r counts (candidates_in n records) → length q ≡ len → 0 < len → len ≤ length records
    → (n ≤ length records) × HoldsCandidates len (take n records)
all_held S q len n r counts records h l some room =
    let k = candidates_length n records in
    let fit : (length (candidates_in n records) ≤ length q) × AllBelow (length q) (candidates_in n records) = rw h.all (to_try_fit S q (omega arith)) in
    let in_room : n ≤ length records = omega (arith, fit.0) in
    let t = length-take-le n records in_room in (
      in_room,
      record {
        inside = λ j m.
            let e = ap (λ (c : Candidate). c.place) (candidates_at n records j (omega arith)) in
            rw (get_or-take n records j no_position (omega arith)) (omega (arith, e, below_at (length q) (candidates_in n records) j fit.1 (omega arith)));
      },
    )

-- The outcome of all tries is the definition's, but for counts that a search without a find leaves.
pub answers_tried : (S : Setup) (q : List Place) (n : ℕ) (s : Searched) (counts₁ : List ℕ) (cs : List Candidate) → ScansBackward S q s counts₁ cs → length cs ≡ n → (r : Scanned) (counts : List ℕ)
    → ((before : List ℕ) → Answers S q (try_from S q cs n 0 before) r counts) → Answers S q (dust_backward S q) r counts
unfolding dust_backward
answers_tried S q n s counts₁ cs h l r counts t =
    let b : Backward = backward_from S q (length q) 1 backward_start (cleared S) [] in
    to_tried S q b r counts (subst (λ (o : Outcome). Answers S q o r counts) (ap₂ (λ (x : List Candidate) (m : ℕ). try_from S q x m 0 b.counts) h.all (sym l ∙ ap length h.all)) (t b.counts))
