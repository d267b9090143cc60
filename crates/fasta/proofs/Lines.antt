-- The contents of a file by its bytes: empty lines first, a line that opens a record, and the lines of a record.
use Rattle.std.proofs.Common.{ℕ, suc, ◌+◌, ◌<◌, ◌≡◌, refl, ap, ◌∙◌, ◌≢◌, Bool, true, false, cond, not, ◌&&◌, ◌||◌, List, [], ◌∷◌, ◌++◌, arith, one-add, eqb, length, take, drop, get_or}
use Rattle.std.proofs.Math.Nat.{suc-add}
use Rattle.std.proofs.lemmas.List.Sums.{prefix_len_stops}
use borrow.Author.Tests.{eqb-true, eqb-false, ne_eqb}
use Rattle.report.specs.Letters.{letters_of}
use Rattle.fasta.specs.Lines.{onto, lines, word}
use Rattle.fasta.specs.Contents.{Contents, ends, fails, letters_below, opened, contents, contents_of}
use Rattle.fasta.specs.Terms.Lengths.{empty_lines, name_length, line_length, lines_length}

-- Empty lines hold nothing, and after them no byte 10 stands.
pub after_empty : (bs : List ℕ) → contents_of (drop (empty_lines bs) bs) ≡ contents_of bs
unfolding contents lines
after_empty [] = refl
after_empty (b ∷ bs) = go (after_empty bs) (eqb b 10) refl
  where
    go : contents_of (drop (empty_lines bs) bs) ≡ contents_of bs → (t : Bool) → eqb b 10 ≡ t
        → contents_of (drop (cond t (1 + empty_lines bs) 0) (b ∷ bs)) ≡ contents false (cond t ([] ∷ lines bs) (onto b (lines bs)))
    go ih true e = rw (one-add (empty_lines bs)) ih
    go ih false e = rw e

pub not_empty : (bs : List ℕ) → empty_lines bs < length bs → get_or bs (empty_lines bs) 0 ≢ 10
not_empty bs h = eqb-false (get_or bs (empty_lines bs) 0) 10 (prefix_len_stops (λ b. eqb b 10) bs 0 h)

-- Letters before the first name.
pub letters_first : (b : ℕ) (bs : List ℕ) → b ≢ 10 → b ≢ 62 → contents_of (b ∷ bs) ≡ fails 14
unfolding contents lines
letters_first b bs h k = rw (ne_eqb b 10 h) (go (lines bs))
  where
    go : (ls : List (List ℕ)) → contents false (onto b ls) ≡ fails 14
    go [] = rw (ne_eqb b 62 k)
    go (l ∷ ls) = rw (ne_eqb b 62 k)

line_split : (b : ℕ) (bs : List ℕ) → onto b (lines bs) ≡ (b ∷ take (line_length bs) bs) ∷ lines (drop (line_length bs + 1) bs)
unfolding lines
line_split b [] = refl
line_split b (c ∷ bs) = go (line_split c bs) (eqb c 10)
  where
    go : onto c (lines bs) ≡ (c ∷ take (line_length bs) bs) ∷ lines (drop (line_length bs + 1) bs) → (t : Bool)
        → onto b (cond t ([] ∷ lines bs) (onto c (lines bs)))
        ≡ (b ∷ take (cond (not t) (1 + line_length bs) 0) (c ∷ bs)) ∷ lines (drop (cond (not t) (1 + line_length bs) 0 + 1) (c ∷ bs))
    go ih true = refl
    go ih false = rw (one-add (line_length bs), suc-add (line_length bs) 1) (ap (λ (ls : List (List ℕ)). onto b ls) ih)

name_first : (bs : List ℕ) → word (take (line_length bs) bs) ≡ take (name_length bs) bs
unfolding word
name_first [] = refl
name_first (b ∷ bs) = go (name_first bs) (eqb b 32 || eqb b 9) refl (eqb b 10)
  where
    go : word (take (line_length bs) bs) ≡ take (name_length bs) bs → (p : Bool) → (eqb b 32 || eqb b 9) ≡ p → (t : Bool)
        → word (take (cond (not t) (1 + line_length bs) 0) (b ∷ bs)) ≡ take (cond (not (p || t)) (1 + name_length bs) 0) (b ∷ bs)
    go ih true e true = refl
    go ih false e true = refl
    go ih true e false = rw (one-add (line_length bs), e) refl
    go ih false e false = rw (one-add (line_length bs), one-add (name_length bs), e) (ap (λ (l : List ℕ). b ∷ l) ih)

-- A name ends in its line.
pub name_line_lem : (bs : List ℕ) → name_length bs + line_length (drop (name_length bs) bs) ≡ line_length bs
name_line_lem [] = refl
name_line_lem (b ∷ bs) = go (name_line_lem bs) (eqb b 32 || eqb b 9) (eqb b 10) refl
  where
    go : name_length bs + line_length (drop (name_length bs) bs) ≡ line_length bs → (p t : Bool) → eqb b 10 ≡ t
        → cond (not (p || t)) (1 + name_length bs) 0 + line_length (drop (cond (not (p || t)) (1 + name_length bs) 0) (b ∷ bs))
        ≡ cond (not t) (1 + line_length bs) 0
    go ih true true e = rw e
    go ih true false e = rw e (omega arith)
    go ih false true e = rw e
    go ih false false e = rw (one-add (name_length bs)) (omega arith)

-- A line that opens a record.
pub opening : (bs : List ℕ)
    → contents_of (62 ∷ bs)
    ≡ opened (take (name_length bs) bs) (letters_below (lines (drop (line_length bs + 1) bs))) (contents true (lines (drop (line_length bs + 1) bs)))
unfolding contents lines
opening bs =
    let A : List (List ℕ) = lines (drop (line_length bs + 1) bs) in
    ap (λ (ls : List (List ℕ)). contents false ls) (line_split 62 bs)
    ∙ ap (λ (l : List ℕ). opened l (letters_below A) (contents true A)) (name_first bs)

-- The letters and what follows them, where the first line is whole, and where it is the rest of one.
abbrev letters_from_lem : Bool → List (List ℕ) → List ℕ
letters_from_lem true ls = letters_below ls
letters_from_lem false [] = []
letters_from_lem false (l ∷ ls) = l ++ letters_below ls

abbrev contents_from : Bool → List (List ℕ) → Contents
contents_from true ls = contents true ls
contents_from false [] = ends
contents_from false (l ∷ ls) = contents true ls

letters_step : (fresh : Bool) (b : ℕ) (ls : List (List ℕ)) → (fresh && eqb b 62) ≡ false → (t : Bool)
    → letters_from_lem fresh (cond t ([] ∷ ls) (onto b ls)) ≡ cond t (letters_from_lem t ls) (b ∷ letters_from_lem t ls)
unfolding letters_below
letters_step true b ls e true = refl
letters_step false b ls e true = refl
letters_step true b [] e false = rw e
letters_step true b (l ∷ ls) e false = rw e
letters_step false b [] e false = refl
letters_step false b (l ∷ ls) e false = refl

contents_step : (fresh : Bool) (b : ℕ) (ls : List (List ℕ)) → (fresh && eqb b 62) ≡ false → (t : Bool)
    → contents_from fresh (cond t ([] ∷ ls) (onto b ls)) ≡ contents_from t ls
unfolding contents
contents_step true b ls e true = refl
contents_step false b ls e true = refl
contents_step true b [] e false = rw e
contents_step true b (l ∷ ls) e false = rw e
contents_step false b [] e false = refl
contents_step false b (l ∷ ls) e false = refl

-- Where a record opens, the record before has no more letters, and it does not matter that there was one.
letters_stop : (fresh : Bool) (b : ℕ) (bs : List ℕ) → (fresh && eqb b 62) ≡ true → letters_from_lem fresh (lines (b ∷ bs)) ≡ []
unfolding letters_below lines
letters_stop false b bs e = absurd (let q : ◌≡◌ {A = Bool} false true = e in (let z : ◌≡◌ {A = ℕ} 0 1 = cc in (let y : ⊥ = omega arith in y)))
letters_stop true b bs e = rw (let q : b ≡ 62 = eqb-true b 62 e in q) (go (lines bs))
  where
    go : (ls : List (List ℕ)) → letters_below (onto 62 ls) ≡ []
    go [] = refl
    go (l ∷ ls) = refl

contents_stop : (fresh : Bool) (b : ℕ) (bs : List ℕ) → (fresh && eqb b 62) ≡ true → contents_from fresh (lines (b ∷ bs)) ≡ contents_of (b ∷ bs)
unfolding contents lines
contents_stop false b bs e = absurd (let z : ◌≡◌ {A = ℕ} 0 1 = cc in (let y : ⊥ = omega arith in y))
contents_stop true b bs e = rw (let q : b ≡ 62 = eqb-true b 62 e in q) (go (lines bs))
  where
    go : (ls : List (List ℕ)) → contents true (onto 62 ls) ≡ contents false (onto 62 ls)
    go [] = refl
    go (l ∷ ls) = refl

record_letters : (fresh : Bool) (bs : List ℕ) → letters_from_lem fresh (lines bs) ≡ letters_of (take (lines_length fresh bs) bs)
unfolding letters_below lines lines_length letters_of
record_letters true [] = refl
record_letters false [] = refl
record_letters fresh (b ∷ bs) = go (record_letters (eqb b 10) bs) (fresh && eqb b 62) refl
  where
    go : letters_from_lem (eqb b 10) (lines bs) ≡ letters_of (take (lines_length (eqb b 10) bs) bs) → (p : Bool) → (fresh && eqb b 62) ≡ p
        → letters_from_lem fresh (lines (b ∷ bs)) ≡ letters_of (take (cond p 0 (suc (lines_length (eqb b 10) bs))) (b ∷ bs))
    go ih true e = letters_stop fresh b bs e
    go ih false e =
        letters_step fresh b (lines bs) e (eqb b 10)
        ∙ ap (λ (l : List ℕ). cond (eqb b 10) l (b ∷ l)) ih

record_rest : (fresh : Bool) (bs : List ℕ) → contents_from fresh (lines bs) ≡ contents_of (drop (lines_length fresh bs) bs)
unfolding contents lines lines_length
record_rest true [] = refl
record_rest false [] = refl
record_rest fresh (b ∷ bs) = go (record_rest (eqb b 10) bs) (fresh && eqb b 62) refl
  where
    go : contents_from (eqb b 10) (lines bs) ≡ contents_of (drop (lines_length (eqb b 10) bs) bs) → (p : Bool) → (fresh && eqb b 62) ≡ p
        → contents_from fresh (lines (b ∷ bs)) ≡ contents_of (drop (cond p 0 (suc (lines_length (eqb b 10) bs))) (b ∷ bs))
    go ih true e = contents_stop fresh b bs e
    go ih false e = contents_step fresh b (lines bs) e (eqb b 10) ∙ ih

-- The lines after a name.
pub letters_are : (bs : List ℕ) → letters_below (lines bs) ≡ letters_of (take (lines_length true bs) bs)
letters_are bs = record_letters true bs

pub rest_is : (bs : List ℕ) → contents true (lines bs) ≡ contents_of (drop (lines_length true bs) bs)
rest_is bs = record_rest true bs
