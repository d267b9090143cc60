-- The records of a file without fault have all its names, in order, and all letters of its other lines, in order: none lost, none invented.
use Rattle.std.proofs.Common.{ℕ, ◌≡◌, refl, ap, ◌∙◌, Bool, true, false, cond, ◌||◌, List, [], ◌∷◌, ◌++◌, append_assoc, arith}
use Rattle.fasta.specs.Lines.{lines, is_empty, opens, name_of}
use Rattle.fasta.specs.Contents.{Record, Contents, fails, letters_below, opened, contents, contents_of, records_of, fault_of}

-- The names in the lines that open a record, and the bytes of the other lines.
abbrev pub names_in : List (List ℕ) → List (List ℕ)
names_in [] = []
names_in (l ∷ ls) = cond (opens l) (name_of l ∷ names_in ls) (names_in ls)

abbrev pub bytes_in : List (List ℕ) → List ℕ
bytes_in [] = []
bytes_in (l ∷ ls) = cond (opens l) (bytes_in ls) (l ++ bytes_in ls)

-- The names, and the letters, of records.
abbrev pub all_names : List Record → List (List ℕ)
all_names [] = []
all_names (r ∷ rs) = r.name ∷ all_names rs

abbrev pub all_letters : List Record → List ℕ
all_letters [] = []
all_letters (r ∷ rs) = r.letters ++ all_letters rs

opened_names : (name letters : List ℕ) (rest : Contents) → fault_of (opened name letters rest) ≡ 0
    → all_names (records_of (opened name letters rest)) ≡ name ∷ all_names (records_of rest)
opened_names [] letters rest h = absurd (let b : ⊥ = omega arith in b)
opened_names (b ∷ name) letters rest h = refl

opened_letters : (name letters : List ℕ) (rest : Contents) → fault_of (opened name letters rest) ≡ 0
    → all_letters (records_of (opened name letters rest)) ≡ letters ++ all_letters (records_of rest)
opened_letters [] letters rest h = absurd (let b : ⊥ = omega arith in b)
opened_letters (b ∷ name) letters rest h = refl

opened_fault : (name letters : List ℕ) (rest : Contents) → fault_of (opened name letters rest) ≡ 0 → fault_of rest ≡ 0
opened_fault [] letters rest h = absurd (let b : ⊥ = omega arith in b)
opened_fault (b ∷ name) letters rest h = h

names_from : (named : Bool) (ls : List (List ℕ)) → fault_of (contents named ls) ≡ 0 → all_names (records_of (contents named ls)) ≡ names_in ls
unfolding contents
names_from named [] h = refl
names_from named (l ∷ ls) h = go (names_from true ls) (names_from named ls) (opens l) (named || is_empty l) h
  where
    go : (fault_of (contents true ls) ≡ 0 → all_names (records_of (contents true ls)) ≡ names_in ls)
        → (fault_of (contents named ls) ≡ 0 → all_names (records_of (contents named ls)) ≡ names_in ls) → (o e : Bool)
        → fault_of (cond o (opened (name_of l) (letters_below ls) (contents true ls)) (cond e (contents named ls) (fails 14))) ≡ 0
        → all_names (records_of (cond o (opened (name_of l) (letters_below ls) (contents true ls)) (cond e (contents named ls) (fails 14))))
        ≡ cond o (name_of l ∷ names_in ls) (names_in ls)
    go t n true e f =
        opened_names (name_of l) (letters_below ls) (contents true ls) f
        ∙ ap (λ (ns : List (List ℕ)). name_of l ∷ ns) (t (opened_fault (name_of l) (letters_below ls) (contents true ls) f))
    go t n false true f = n f
    go t n false false f = absurd (let b : ⊥ = omega arith in b)

pub names_kept : (file : List ℕ) → fault_of (contents_of file) ≡ 0 → all_names (records_of (contents_of file)) ≡ names_in (lines file)
names_kept file h = names_from false (lines file) h

letters_after : (ls : List (List ℕ)) → fault_of (contents true ls) ≡ 0 → letters_below ls ++ all_letters (records_of (contents true ls)) ≡ bytes_in ls
unfolding contents letters_below
letters_after [] h = refl
letters_after (l ∷ ls) h = go (letters_after ls) (opens l) h
  where
    go : (fault_of (contents true ls) ≡ 0 → letters_below ls ++ all_letters (records_of (contents true ls)) ≡ bytes_in ls) → (o : Bool)
        → fault_of (cond o (opened (name_of l) (letters_below ls) (contents true ls)) (contents true ls)) ≡ 0
        → cond o [] (l ++ letters_below ls) ++ all_letters (records_of (cond o (opened (name_of l) (letters_below ls) (contents true ls)) (contents true ls)))
        ≡ cond o (bytes_in ls) (l ++ bytes_in ls)
    go ih true f =
        opened_letters (name_of l) (letters_below ls) (contents true ls) f ∙ ih (opened_fault (name_of l) (letters_below ls) (contents true ls) f)
    go ih false f =
        append_assoc l (letters_below ls) (all_letters (records_of (contents true ls)))
        ∙ ap (λ (x : List ℕ). l ++ x) (ih f)

letters_from : (ls : List (List ℕ)) → fault_of (contents false ls) ≡ 0 → all_letters (records_of (contents false ls)) ≡ bytes_in ls
unfolding contents
letters_from [] h = refl
letters_from ([] ∷ ls) h = letters_from ls h
letters_from ((b ∷ l) ∷ ls) h = go (letters_after ls) (opens (b ∷ l)) h
  where
    go : (fault_of (contents true ls) ≡ 0 → letters_below ls ++ all_letters (records_of (contents true ls)) ≡ bytes_in ls) → (o : Bool)
        → fault_of (cond o (opened (name_of (b ∷ l)) (letters_below ls) (contents true ls)) (fails 14)) ≡ 0
        → all_letters (records_of (cond o (opened (name_of (b ∷ l)) (letters_below ls) (contents true ls)) (fails 14)))
        ≡ cond o (bytes_in ls) ((b ∷ l) ++ bytes_in ls)
    go t true f =
        opened_letters (name_of (b ∷ l)) (letters_below ls) (contents true ls) f
        ∙ t (opened_fault (name_of (b ∷ l)) (letters_below ls) (contents true ls) f)
    go t false f = absurd (let z : ⊥ = omega arith in z)

pub letters_kept : (file : List ℕ) → fault_of (contents_of file) ≡ 0 → all_letters (records_of (contents_of file)) ≡ bytes_in (lines file)
letters_kept file h = letters_from (lines file) h
