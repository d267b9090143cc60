-- A file cut where a line opens a record: it holds what its two parts hold, one after the other.
use Rattle.std.proofs.Common.{ℕ, ◌<◌, ◌≡◌, refl, ap, ap₂, ◌∙◌, ◌⊎◌, inl, inr, Bool, true, false, cond, ◌||◌, List, [], ◌∷◌, ◌++◌, arith, eqb}
use Rattle.fasta.specs.Lines.{onto, lines, is_empty, opens, name_of}
use Rattle.fasta.specs.Contents.{Record, Contents, ends, fails, holds, letters_below, opened, contents, contents_of, records_of, fault_of, followed}

abbrev Some : List (List ℕ) → Type 0
Some [] = ⊥
Some (l ∷ ls) = Unit

some_onto : (b : ℕ) (ls : List (List ℕ)) → Some (onto b ls)
some_onto b [] = tt
some_onto b (l ∷ ls) = tt

some_ended : (a : List ℕ) → Some (lines (a ++ (10 ∷ [])))
unfolding lines
some_ended [] = tt
some_ended (b ∷ a) = go (eqb b 10)
  where
    go : (t : Bool) → Some (cond t ([] ∷ lines (a ++ (10 ∷ []))) (onto b (lines (a ++ (10 ∷ [])))))
    go true = tt
    go false = some_onto b (lines (a ++ (10 ∷ [])))

onto_append : (b : ℕ) (ls ms : List (List ℕ)) → Some ls → onto b (ls ++ ms) ≡ onto b ls ++ ms
onto_append b [] ms s = absurd s
onto_append b (l ∷ ls) ms s = refl

-- Byte 10 ends a line.
pub lines_cut : (a c : List ℕ) → lines (a ++ (10 ∷ c)) ≡ lines (a ++ (10 ∷ [])) ++ lines c
unfolding lines
lines_cut [] c = refl
lines_cut (b ∷ a) c = go (lines_cut a c) (eqb b 10)
  where
    go : lines (a ++ (10 ∷ c)) ≡ lines (a ++ (10 ∷ [])) ++ lines c → (t : Bool)
        → cond t ([] ∷ lines (a ++ (10 ∷ c))) (onto b (lines (a ++ (10 ∷ c))))
        ≡ cond t ([] ∷ lines (a ++ (10 ∷ []))) (onto b (lines (a ++ (10 ∷ [])))) ++ lines c
    go ih true = ap (λ (ls : List (List ℕ)). [] ∷ ls) ih
    go ih false = ap (λ (ls : List (List ℕ)). onto b ls) ih ∙ onto_append b (lines (a ++ (10 ∷ []))) (lines c) (some_ended a)

-- One byte 10 at the end of a file adds nothing, or an empty line.
lines_ended : (a : List ℕ) → (lines (a ++ (10 ∷ [])) ≡ lines a) ⊎ (lines (a ++ (10 ∷ [])) ≡ lines a ++ ([] ∷ []))
unfolding lines
lines_ended [] = inr refl
lines_ended (b ∷ a) = go (lines (a ++ (10 ∷ []))) (lines a) (lines_ended a) (eqb b 10)
  where
    go : (ms ls : List (List ℕ)) → (ms ≡ ls) ⊎ (ms ≡ ls ++ ([] ∷ [])) → (t : Bool)
        → (cond t ([] ∷ ms) (onto b ms) ≡ cond t ([] ∷ ls) (onto b ls)) ⊎ (cond t ([] ∷ ms) (onto b ms) ≡ cond t ([] ∷ ls) (onto b ls) ++ ([] ∷ []))
    go ms ls (inl e) t = inl (ap (λ (zs : List (List ℕ)). cond t ([] ∷ zs) (onto b zs)) e)
    go ms [] (inr e) true = inr (ap (λ (zs : List (List ℕ)). [] ∷ zs) e)
    go ms (l ∷ ls) (inr e) true = inr (ap (λ (zs : List (List ℕ)). [] ∷ zs) e)
    go ms [] (inr e) false = inl (ap (λ (zs : List (List ℕ)). onto b zs) e)
    go ms (l ∷ ls) (inr e) false = inr (ap (λ (zs : List (List ℕ)). onto b zs) e)

letters_empty : (ls : List (List ℕ)) → letters_below (ls ++ ([] ∷ [])) ≡ letters_below ls
unfolding letters_below
letters_empty [] = refl
letters_empty (l ∷ ls) = ap (λ (x : List ℕ). cond (opens l) [] (l ++ x)) (letters_empty ls)

contents_empty : (named : Bool) (ls : List (List ℕ)) → contents named (ls ++ ([] ∷ [])) ≡ contents named ls
unfolding contents
contents_empty true [] = refl
contents_empty false [] = refl
contents_empty named (l ∷ ls) =
    ap (λ (x : Contents). cond (opens l) x (cond (named || is_empty l) (contents named (ls ++ ([] ∷ []))) (fails 14)))
    (ap₂ (λ (x : List ℕ) (y : Contents). opened (name_of l) x y) (letters_empty ls) (contents_empty true ls))
    ∙ ap (λ (x : Contents). cond (opens l) (opened (name_of l) (letters_below ls) (contents true ls)) (cond (named || is_empty l) x (fails 14)))
    (contents_empty named ls)

pub line_end_last : (a : List ℕ) → contents_of (a ++ (10 ∷ [])) ≡ contents_of a
line_end_last a = go (lines_ended a)
  where
    go : (lines (a ++ (10 ∷ [])) ≡ lines a) ⊎ (lines (a ++ (10 ∷ [])) ≡ lines a ++ ([] ∷ [])) → contents false (lines (a ++ (10 ∷ []))) ≡ contents false (lines a)
    go (inl e) = ap (λ (ls : List (List ℕ)). contents false ls) e
    go (inr e) = ap (λ (ls : List (List ℕ)). contents false ls) e ∙ contents_empty false (lines a)

-- The lines ms begin with one that opens a record.
module _ (m : List ℕ) (ms : List (List ℕ)) (op : opens m ≡ true) where
  letters_before : (ls : List (List ℕ)) → letters_below (ls ++ (m ∷ ms)) ≡ letters_below ls
  unfolding letters_below
  letters_before [] = rw op
  letters_before (l ∷ ls) = ap (λ (x : List ℕ). cond (opens l) [] (l ++ x)) (letters_before ls)

  opened_followed : (name letters : List ℕ) (rest next : Contents) → opened name letters (followed rest next) ≡ followed (opened name letters rest) next
  opened_followed [] letters rest next = refl
  opened_followed (b ∷ name) letters rest next = refl

  lines_followed : (named : Bool) (ls : List (List ℕ)) → contents named (ls ++ (m ∷ ms)) ≡ followed (contents named ls) (contents false (m ∷ ms))
  unfolding contents
  lines_followed named [] = rw op
  lines_followed named (l ∷ ls) = go (lines_followed true ls) (lines_followed named ls) (opens l) (named || is_empty l)
    where
      go : contents true (ls ++ (m ∷ ms)) ≡ followed (contents true ls) (contents false (m ∷ ms))
          → contents named (ls ++ (m ∷ ms)) ≡ followed (contents named ls) (contents false (m ∷ ms)) → (o e : Bool)
          → cond o (opened (name_of l) (letters_below (ls ++ (m ∷ ms))) (contents true (ls ++ (m ∷ ms)))) (cond e (contents named (ls ++ (m ∷ ms))) (fails 14))
          ≡ followed (cond o (opened (name_of l) (letters_below ls) (contents true ls)) (cond e (contents named ls) (fails 14))) (contents false (m ∷ ms))
      go t n true e =
          ap₂ (λ (x : List ℕ) (y : Contents). opened (name_of l) x y) (letters_before ls) t
          ∙ opened_followed (name_of l) (letters_below ls) (contents true ls) (contents false (m ∷ ms))
      go t n false true = n
      go t n false false = refl

pub file_followed : (a b : List ℕ) → contents_of (a ++ (10 ∷ (62 ∷ b))) ≡ followed (contents_of a) (contents_of (62 ∷ b))
unfolding lines
file_followed a b =
    ap (λ (ls : List (List ℕ)). contents false ls) (lines_cut a (62 ∷ b))
    ∙ go (lines b)
    ∙ ap (λ (c : Contents). followed c (contents_of (62 ∷ b))) (line_end_last a)
  where
    go : (ls : List (List ℕ)) → contents false (lines (a ++ (10 ∷ [])) ++ onto 62 ls) ≡ followed (contents_of (a ++ (10 ∷ []))) (contents false (onto 62 ls))
    go [] = lines_followed (62 ∷ []) [] refl false (lines (a ++ (10 ∷ [])))
    go (l ∷ ls) = lines_followed (62 ∷ l) ls refl false (lines (a ++ (10 ∷ [])))

-- Where the first file has no fault, the records of both follow each other, and a fault is the second's; where it has one, that is the fault.
abbrev NoFault : Contents → Type 0
NoFault ends = Unit
NoFault (fails n) = ⊥
NoFault (holds r rest) = NoFault rest

opened_faultless : (name letters : List ℕ) (rest : Contents) → (fault_of rest ≡ 0 → NoFault rest) → fault_of (opened name letters rest) ≡ 0
    → NoFault (opened name letters rest)
opened_faultless [] letters rest n h = absurd (let b : ⊥ = omega arith in b)
opened_faultless (b ∷ name) letters rest n h = n h

faultless : (named : Bool) (ls : List (List ℕ)) → fault_of (contents named ls) ≡ 0 → NoFault (contents named ls)
unfolding contents
faultless named [] h = tt
faultless named (l ∷ ls) h = go (faultless true ls) (faultless named ls) (opens l) (named || is_empty l) h
  where
    go : (fault_of (contents true ls) ≡ 0 → NoFault (contents true ls)) → (fault_of (contents named ls) ≡ 0 → NoFault (contents named ls)) → (o e : Bool)
        → fault_of (cond o (opened (name_of l) (letters_below ls) (contents true ls)) (cond e (contents named ls) (fails 14))) ≡ 0
        → NoFault (cond o (opened (name_of l) (letters_below ls) (contents true ls)) (cond e (contents named ls) (fails 14)))
    go t n true e f = opened_faultless (name_of l) (letters_below ls) (contents true ls) t f
    go t n false true f = n f
    go t n false false f = absurd (let b : ⊥ = omega arith in b)

both_records : (a b : Contents) → NoFault a → records_of (followed a b) ≡ records_of a ++ records_of b
both_records ends b n = refl
both_records (fails m) b n = absurd n
both_records (holds r a) b n = ap (λ (rs : List Record). r ∷ rs) (both_records a b n)

second_fault : (a b : Contents) → NoFault a → fault_of (followed a b) ≡ fault_of b
second_fault ends b n = refl
second_fault (fails m) b n = absurd n
second_fault (holds r a) b n = second_fault a b n

first_fault : (a b : Contents) → 0 < fault_of a → fault_of (followed a b) ≡ fault_of a
first_fault ends b h = absurd (let z : ⊥ = omega arith in z)
first_fault (fails m) b h = refl
first_fault (holds r a) b h = first_fault a b h

module _ (a b : List ℕ) where
  pub records_follow : fault_of (contents_of a) ≡ 0
      → records_of (contents_of (a ++ (10 ∷ (62 ∷ b)))) ≡ records_of (contents_of a) ++ records_of (contents_of (62 ∷ b))
  records_follow h = ap records_of (file_followed a b) ∙ both_records (contents_of a) (contents_of (62 ∷ b)) (faultless false (lines a) h)

  pub fault_follows : fault_of (contents_of a) ≡ 0 → fault_of (contents_of (a ++ (10 ∷ (62 ∷ b)))) ≡ fault_of (contents_of (62 ∷ b))
  fault_follows h = ap fault_of (file_followed a b) ∙ second_fault (contents_of a) (contents_of (62 ∷ b)) (faultless false (lines a) h)

  pub fault_stays : 0 < fault_of (contents_of a) → fault_of (contents_of (a ++ (10 ∷ (62 ∷ b)))) ≡ fault_of (contents_of a)
  fault_stays h = ap fault_of (file_followed a b) ∙ first_fault (contents_of a) (contents_of (62 ∷ b)) h
