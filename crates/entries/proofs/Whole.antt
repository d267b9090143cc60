-- Records one after the other, and how the whole ends.
use Rattle.std.proofs.Common.{◌≡◌, ℕ, Bool, true, List, [], ◌∷◌, ◌++◌, refl, sym, ap, ap₂, ◌∙◌, append_assoc, append-nil, subst, None, Some, IfSome, Ok, Err}
use Rattle.std.specs.Prelude.{Option, Result}
use Rattle.std.specs.Io.KnownBytes.{Appends}
use Rattle.std.proofs.KnownBytes.{Appends-trans, Appends-nil}
use Rattle.fasta.specs.Steps.{fault_number}
use Rattle.entries.specs.declared.failed.Failed.{Failed}
use Rattle.entries.specs.declared.failed.Failed.TheVariants.{Faulty, Reading, Writing, Saying, NoMemory}
use Rattle.entries.specs.declared.sums.Sums.{Sums}
use Rattle.entries.specs.Sums.{add}
use Rattle.entries.specs.Entries.{Entry, Entries, ends, fails, holds, list_of, fault_of, entries_of}
use Rattle.entries.specs.Terms.Reading.{EntryRead}
use Rattle.entries.specs.Outcome.{Report, held, AllAppend, StopsAt, texts, text_on, notes_on, sums_on, records, text_of, Recorded, WholeRecords, Outcome}
use Rattle.entries.proofs.Steps.{if_some}
use Rattle.entries.proofs.Adding.{sums_snoc}
use Rattle.entries.proofs.Sending.{after_front}

-- ---- Writers.
abbrev Writers : Type 0
Writers = List (Option (List ℕ))

pub all_none : (a : Writers) → AllAppend a a (λ i. [])
all_none a = λ i. Appends-nil (held a i)

module _ (a b c : Writers) (f g : ℕ → List ℕ) (p : AllAppend a b f) where
  pub all_then : AllAppend b c g → AllAppend a c (λ i. f i ++ g i)
  all_then q = λ i. Appends-trans (held a i) (held b i) (held c i) (f i) (g i) (p i) (q i)

  -- After f, what g says up to a front.
  pub stops_then : (n : ℕ) → StopsAt n b c (λ i. []) g → StopsAt n a c f g
  stops_then n q =
      record {
        before = λ i h. Appends-trans (held a i) (held b i) (held c i) (f i) (g i) (p i) (q.before i h);
        stopped = after_front (held a n) (held b n) (held c n) (f n) (g n) (p n) q.stopped;
        after = λ i h. subst (λ (l : List ℕ). Appends (held a i) (held c i) l) (append-nil (f i)) (Appends-trans (held a i) (held b i) (held c i) (f i) [] (p i) (q.after i h));
      }

pub all_as : (a b : Writers) (f g : ℕ → List ℕ) → ((i : ℕ) → f i ≡ g i) → AllAppend a b f → AllAppend a b g
all_as a b f g e p = λ i. subst (λ (l : List ℕ). Appends (held a i) (held b i) l) (e i) (p i)

-- ---- Entries.
pub recorded_as : (f g : Entry → Report) (e : Entry) (a b : Writers) (c d : Option (List ℕ)) (x : Result Sums Failed) → f ≡ g → Recorded (f e) a b c d x → Recorded (g e) a b c d x
recorded_as f g e a b c d x q p = subst (λ (h : Entry → Report). Recorded (h e) a b c d x) q p

abbrev pub after : List Entry → Entries → Entries
after [] c = c
after (e ∷ es) c = holds e (after es c)

after_snoc : (es : List Entry) (e : Entry) (c : Entries) → after (es ++ e ∷ []) c ≡ after es (holds e c)
after_snoc [] e c = refl
after_snoc (q ∷ es) e c = ap (λ (d : Entries). holds q d) (after_snoc es e c)

list_after : (es : List Entry) (c : Entries) → list_of (after es c) ≡ es ++ list_of c
list_after [] c = refl
list_after (e ∷ es) c = ap (λ (l : List Entry). e ∷ l) (list_after es c)

fault_after : (es : List Entry) (c : Entries) → fault_of (after es c) ≡ fault_of c
fault_after [] c = refl
fault_after (e ∷ es) c = fault_after es c

module _ (f : Entry → List ℕ) where
  pub texts_append : (es qs : List Entry) → texts f (es ++ qs) ≡ texts f es ++ texts f qs
  unfolding texts
  texts_append [] qs = refl
  texts_append (e ∷ es) qs = ap (λ (l : List ℕ). f e ++ l) (texts_append es qs) ∙ sym (append_assoc (f e) (texts f es) (texts f qs))

  texts_none : texts f [] ≡ []
  unfolding texts
  texts_none = refl

  texts_snoc : (es : List Entry) (e : Entry) → texts f (es ++ e ∷ []) ≡ texts f es ++ f e
  unfolding texts
  texts_snoc es e = texts_append es (e ∷ []) ∙ ap (λ (l : List ℕ). texts f es ++ l) (append-nil (f e))

module _ (f : Entry → Report) where
  abbrev text_by : ℕ → Entry → List ℕ
  text_by i e = (f e).text i

  abbrev notes_by : Entry → List ℕ
  notes_by e = (f e).notes

  module _ (cr : Bool) (w : Writers) (v : Option (List ℕ)) (m : Sums) where
    -- The records that were written, and what is left of the file.
    abbrev pub Going : List ℕ → Option (List ℕ) → Writers → Option (List ℕ) → Sums → Type 0
    Going xs b w' v' t =
        (done : List Entry) × (ys : List ℕ) × (b ≡ Some ys) × (entries_of cr xs ≡ after done (entries_of cr ys))
        × AllAppend w w' (text_on f done) × Appends v v' (notes_on f done) × (t ≡ sums_on f m done)

    pub going_start : (a : Option (List ℕ)) → IfSome a (λ xs. Going xs a w v m)
    unfolding texts sums_on
    going_start None = tt
    going_start (Some xs) = ([], xs, refl, refl, all_none w, Appends-nil v, refl)

    module _ (a b : Option (List ℕ)) (w' : Writers) (v' : Option (List ℕ)) (t : Sums) (s : IfSome a (λ xs. Going xs b w' v' t)) where
      each : (P : List ℕ → Type 0) → ((xs : List ℕ) → Going xs b w' v' t → P xs) → (c : Option (List ℕ)) → IfSome c (λ xs. Going xs b w' v' t) → IfSome c P
      each P h None q = tt
      each P h (Some xs) q = h xs q

      pub going_on : (d : Option (List ℕ)) (w'' : Writers) (v'' : Option (List ℕ)) (e : Entry) (u r : Sums) → r ≡ add t u
          → IfSome b (λ ys. EntryRead cr ys d e (Ok true)) → Recorded (f e) w' w'' v' v'' (Ok u) → IfSome a (λ xs. Going xs d w'' v'' r)
      going_on d w'' v'' e u r q read (sent, said, g) =
          each (λ xs. Going xs d w'' v'' r)
          (λ xs s.
          let (done, ys, same, c, p, n, k) = s in
          let (zs, rest, h) = if_some (λ z. EntryRead cr z d e (Ok true)) same read in (
            done ++ e ∷ [],
            zs,
            rest,
            c ∙ ap (after done) h ∙ sym (after_snoc done e (entries_of cr zs)),
            all_as w w'' (λ i. text_on f done i ++ (f e).text i) (text_on f (done ++ e ∷ [])) (λ i. sym (texts_snoc (text_by i) done e))
                (all_then w w' w'' (text_on f done) (f e).text p sent),
            subst (λ (l : List ℕ). Appends v v'' l) (sym (texts_snoc notes_by done e)) (Appends-trans v v' v'' (notes_on f done) (f e).notes n said),
            q ∙ ap₂ add k g ∙ sym (sums_snoc f m done e),
          ))
          a s

      -- The records are those written, and those of what is left.
      records_are : (xs : List ℕ) (done : List Entry) (c : Entries) → entries_of cr xs ≡ after done c → records cr xs ≡ done ++ list_of c
      records_are xs done c e = ap list_of e ∙ list_after done c

      whole : (xs : List ℕ) (done : List Entry) (c : Entries) → list_of c ≡ [] → entries_of cr xs ≡ after done c → records cr xs ≡ done
      whole xs done c n e = records_are xs done c e ∙ ap (λ (l : List Entry). done ++ l) n ∙ append-nil done

      all_written : (xs : List ℕ) (done : List Entry) → records cr xs ≡ done → AllAppend w w' (text_on f done) → AllAppend w w' (text_of cr f xs)
      all_written xs done es p = all_as w w' (text_on f done) (text_of cr f xs) (λ i. ap (λ (l : List Entry). text_on f l i) (sym es)) p

      pub ends_well : IfSome b (λ ys. entries_of cr ys ≡ ends) → IfSome a (λ xs. Outcome cr f xs w w' v v' m t (Ok tt))
      ends_well read =
          each (λ xs. Outcome cr f xs w w' v v' m t (Ok tt))
          (λ xs g.
          let (done, ys, q, c, p, n, k) = g in
          let h : entries_of cr xs ≡ after done ends = c ∙ ap (after done) (if_some (λ z. entries_of cr z ≡ ends) q read) in
          let es : records cr xs ≡ done = whole xs done ends refl h in (
            ap fault_of h ∙ fault_after done ends,
            all_written xs done es p,
            subst (λ (l : List Entry). Appends v v' (notes_on f l)) (sym es) n,
            k ∙ ap (sums_on f m) (sym es),
          ))
          a s

      front : (xs : List ℕ) → Going xs b w' v' t → WholeRecords (records cr xs) f w w' v v' m t
      front xs (done, ys, q, c, p, n, k) = (done, list_of (entries_of cr ys), records_are xs done (entries_of cr ys) c, p, n, k)

      pub ends_early : IfSome a (λ xs. WholeRecords (records cr xs) f w w' v v' m t)
      ends_early = each (λ xs. WholeRecords (records cr xs) f w w' v v' m t) front a s

      fails_by : (x : Failed) → (xs : List ℕ) (d : Option (List ℕ)) (e : Entry) → Going xs b w' v' t → IfSome b (λ ys. EntryRead cr ys d e (Err x)) → Outcome cr f xs w w' v v' m t (Err x)
      fails_by (Faulty x) xs d e (done, ys, q, c, p, n, k) read =
          let h : entries_of cr xs ≡ after done (fails (fault_number x)) = c ∙ ap (after done) (if_some (λ z. EntryRead cr z d e (Err (Faulty x))) q read) in
          let es : records cr xs ≡ done = whole xs done (fails (fault_number x)) refl h in (
            ap fault_of h ∙ fault_after done (fails (fault_number x)),
            all_written xs done es p,
            subst (λ (l : List Entry). Appends v v' (notes_on f l)) (sym es) n,
            k ∙ ap (sums_on f m) (sym es),
          )
      fails_by (Reading x) xs d e g read = front xs g
      fails_by (Writing x) xs d e (done, ys, q, c, p, n, k) read = absurd (if_some (λ z. EntryRead cr z d e (Err (Writing x))) q read)
      fails_by (Saying x) xs d e (done, ys, q, c, p, n, k) read = absurd (if_some (λ z. EntryRead cr z d e (Err (Saying x))) q read)
      fails_by NoMemory xs d e (done, ys, q, c, p, n, k) read = absurd (if_some (λ z. EntryRead cr z d e (Err NoMemory)) q read)

      pub fails_reading : (x : Failed) (d : Option (List ℕ)) (e : Entry) → IfSome b (λ ys. EntryRead cr ys d e (Err x)) → IfSome a (λ xs. Outcome cr f xs w w' v v' m t (Err x))
      fails_reading x d e read = each (λ xs. Outcome cr f xs w w' v v' m t (Err x)) (λ xs g. fails_by x xs d e g read) a s

      -- The record that was not written whole comes after those that were.
      parted : (xs : List ℕ) (d : Option (List ℕ)) (e : Entry) (done : List Entry) (ys : List ℕ) → b ≡ Some ys → entries_of cr xs ≡ after done (entries_of cr ys)
          → IfSome b (λ ys. EntryRead cr ys d e (Ok true)) → (rest : List Entry) × (records cr xs ≡ done ++ e ∷ rest)
      parted xs d e done ys q c read =
          let (zs, r, h) = if_some (λ z. EntryRead cr z d e (Ok true)) q read in
          (list_of (entries_of cr zs), records_are xs done (entries_of cr ys) c ∙ ap (λ (z : Entries). done ++ list_of z) h)

      stops_by : (x : Failed) → (xs : List ℕ) (d : Option (List ℕ)) (w'' : Writers) (v'' : Option (List ℕ)) (e : Entry) → Going xs b w' v' t
          → IfSome b (λ ys. EntryRead cr ys d e (Ok true)) → Recorded (f e) w' w'' v' v'' (Err x) → Outcome cr f xs w w'' v v'' m t (Err x)
      stops_by (Faulty x) xs d w'' v'' e g read h = absurd h
      stops_by (Reading x) xs d w'' v'' e g read h = absurd h
      stops_by NoMemory xs d w'' v'' e g read (h, i) =
          let (done, rest, es, p, n, k) = front xs g in (
            done,
            rest,
            es,
            all_as w w'' (λ j. text_on f done j ++ []) (text_on f done) (λ j. append-nil (text_on f done j)) (all_then w w' w'' (text_on f done) (λ j. []) p h),
            subst (λ (l : List ℕ). Appends v v'' l) (append-nil _) (Appends-trans v v' v'' _ [] n i),
            k,
          )
      stops_by (Writing x) xs d w'' v'' e (done, ys, q, c, p, n, k) read ((j, h), i) =
          let (rest, es) = parted xs d e done ys q c read in (
            done,
            e,
            rest,
            es,
            (j, stops_then w w' w'' (text_on f done) (f e).text p j h),
            subst (λ (l : List ℕ). Appends v v'' l) (append-nil _) (Appends-trans v v' v'' _ [] n i),
            k,
          )
      stops_by (Saying x) xs d w'' v'' e (done, ys, q, c, p, n, k) read (h, i) =
          let (rest, es) = parted xs d e done ys q c read in
          (done, e, rest, es, all_then w w' w'' (text_on f done) (f e).text p h, after_front v v' v'' (notes_on f done) (f e).notes n i, k)

      pub fails_writing : (x : Failed) (d : Option (List ℕ)) (w'' : Writers) (v'' : Option (List ℕ)) (e : Entry) → IfSome b (λ ys. EntryRead cr ys d e (Ok true))
          → Recorded (f e) w' w'' v' v'' (Err x) → IfSome a (λ xs. Outcome cr f xs w w'' v v'' m t (Err x))
      fails_writing x d w'' v'' e read h = each (λ xs. Outcome cr f xs w w'' v v'' m t (Err x)) (λ xs g. stops_by x xs d w'' v'' e g read h) a s
