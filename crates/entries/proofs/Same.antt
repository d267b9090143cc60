-- Two reports that agree on the records of a file have the same outcome.
use Rattle.std.proofs.Common.{◌≡◌, ℕ, ◌<◌, Bool, List, [], ◌∷◌, ◌++◌, refl, sym, ap, ap₂, ◌∙◌, subst, Ok, Err}
use Rattle.std.specs.Prelude.{Option, Result}
use Rattle.std.specs.Io.KnownBytes.{Appends}
use Rattle.entries.specs.declared.failed.Failed.{Failed}
use Rattle.entries.specs.declared.failed.Failed.TheVariants.{Faulty, Reading, Writing, Saying, NoMemory}
use Rattle.entries.specs.declared.sums.Sums.{Sums}
use Rattle.entries.specs.Sums.{add}
use Rattle.entries.specs.Entries.{Entry}
use Rattle.entries.specs.Outcome.{Report, Front, FrontAfter, held, AllAppend, StopsAt, texts, text_on, notes_on, sums_on, records, Outcome}

module _ (r q : Entry → Report) where
  -- On each of these records.
  abbrev pub Agree : List Entry → Type 0
  Agree [] = Unit
  Agree (e ∷ es) = (r e ≡ q e) × Agree es

  text_same : (es : List Entry) → Agree es → (i : ℕ) → text_on r es i ≡ text_on q es i
  unfolding texts
  text_same [] a i = refl
  text_same (e ∷ es) a i = ap₂ (λ (x y : List ℕ). x ++ y) (ap (λ (z : Report). z.text i) a.0) (text_same es a.1 i)

  notes_same : (es : List Entry) → Agree es → notes_on r es ≡ notes_on q es
  unfolding texts
  notes_same [] a = refl
  notes_same (e ∷ es) a = ap₂ (λ (x y : List ℕ). x ++ y) (ap (λ (z : Report). z.notes) a.0) (notes_same es a.1)

  sums_same : (s : Sums) (es : List Entry) → Agree es → sums_on r s es ≡ sums_on q s es
  unfolding sums_on
  sums_same s [] a = refl
  sums_same s (e ∷ es) a = ap (λ (z : Report). sums_on r (add s z.sums) es) a.0 ∙ sums_same (add s (q e).sums) es a.1

  front : (done rest : List Entry) → Agree (done ++ rest) → Agree done
  front [] rest a = tt
  front (e ∷ done) rest a = (a.0, front done rest a.1)

  next : (done : List Entry) (e : Entry) (rest : List Entry) → Agree (done ++ e ∷ rest) → r e ≡ q e
  next [] e rest a = a.0
  next (d ∷ done) e rest a = next done e rest a.1

  of_whole : (es : List Entry) → Agree es → (xs : List Entry) → es ≡ xs → Agree xs
  of_whole es a xs e = subst Agree e a

all_same : (old new : List (Option (List ℕ))) (f g : ℕ → List ℕ) → ((i : ℕ) → f i ≡ g i) → AllAppend old new f → AllAppend old new g
all_same old new f g e a i = subst (λ (l : List ℕ). Appends (held old i) (held new i) l) (e i) (a i)

stops_same : (n : ℕ) (old new : List (Option (List ℕ))) (f g f' g' : ℕ → List ℕ) → ((i : ℕ) → f i ≡ f' i) → ((i : ℕ) → g i ≡ g' i)
    → StopsAt n old new f g → StopsAt n old new f' g'
stops_same n old new f g f' g' e d s =
    record {
      before = λ i h. subst (λ (l : List ℕ). Appends (held old i) (held new i) l) (ap₂ (λ (x y : List ℕ). x ++ y) (e i) (d i)) (s.before i h);
      stopped = subst (λ (l : List ℕ). FrontAfter (held old n) (held new n) l (g' n)) (e n) (subst (λ (l : List ℕ). FrontAfter (held old n) (held new n) (f n) l) (d n) s.stopped);
      after = λ i h. subst (λ (l : List ℕ). Appends (held old i) (held new i) l) (e i) (s.after i h);
    }

module _ (cr : Bool) (r q : Entry → Report) (file : List ℕ) (a : Agree r q (records cr file)) (outs outs' : List (Option (List ℕ)))
    (notes notes' : Option (List ℕ)) (sums sums' : Sums) where
  module _ (done : List Entry) (b : Agree r q done) where
    all_of : AllAppend outs outs' (text_on r done) → AllAppend outs outs' (text_on q done)
    all_of h = all_same outs outs' _ _ (text_same r q done b) h

    notes_of : Appends notes notes' (notes_on r done) → Appends notes notes' (notes_on q done)
    notes_of h = subst (λ (l : List ℕ). Appends notes notes' l) (notes_same r q done b) h

    sums_of : sums' ≡ sums_on r sums done → sums' ≡ sums_on q sums done
    sums_of h = h ∙ sums_same r q sums done b

  pub outcome_same : (x : Result Unit Failed) → Outcome cr r file outs outs' notes notes' sums sums' x → Outcome cr q file outs outs' notes notes' sums sums' x
  outcome_same (Ok u) (f, t, n, s) = (f, all_of _ a t, notes_of _ a n, sums_of _ a s)
  outcome_same (Err (Faulty g)) (f, t, n, s) = (f, all_of _ a t, notes_of _ a n, sums_of _ a s)
  outcome_same (Err (Reading e)) (done, rest, is, t, n, s) =
      let b = front r q done rest (of_whole r q _ a _ is) in (done, rest, is, all_of done b t, notes_of done b n, sums_of done b s)
  outcome_same (Err NoMemory) (done, rest, is, t, n, s) =
      let b = front r q done rest (of_whole r q _ a _ is) in (done, rest, is, all_of done b t, notes_of done b n, sums_of done b s)
  outcome_same (Err (Writing e)) (done, d, rest, is, (k, t), n, s) =
      let w = of_whole r q _ a _ is in
      let b = front r q done (d ∷ rest) w in (
        done,
        d,
        rest,
        is,
        (k, stops_same k outs outs' _ _ _ _ (text_same r q done b) (λ i. ap (λ (z : Report). z.text i) (next r q done d rest w)) t),
        notes_of done b n,
        sums_of done b s,
      )
  outcome_same (Err (Saying e)) (done, d, rest, is, t, n, s) =
      let w = of_whole r q _ a _ is in
      let b = front r q done (d ∷ rest) w in
      let same = next r q done d rest w in (
        done,
        d,
        rest,
        is,
        all_same outs outs' _ _ (λ i. ap₂ (λ (x y : List ℕ). x ++ y) (text_same r q done b i) (ap (λ (z : Report). z.text i) same)) t,
        subst (λ (l : List ℕ). FrontAfter notes notes' (notes_on q done) l) (ap (λ (z : Report). z.notes) same)
            (subst (λ (l : List ℕ). FrontAfter notes notes' l (r d).notes) (notes_same r q done b) n),
        sums_of done b s,
      )
