-- The steps of the reader, where the bytes that are left are known.
use Rattle.std.proofs.Common.{◌≡◌, ℕ, ◌<◌, ◌-◌, Bool, true, false, cond, eqb, List, [], ◌∷◌, ◌++◌, map, length, get_or, refl, sym, ap, ap₂, ◌∙◌, arith, length-append, append-nil, subst, eq-eqb, ne_eqb, ◌≢◌, None, Some, IfSome, Ok, Err}
use Rattle.std.specs.Prelude.{Option}
use Rattle.std.specs.Io.KnownBytes.{Keeps, IsAtEnd}
use Rattle.std.specs.Io.BufRead.{take_through, drop_through, DropsThrough}
use Rattle.fasta.specs.Lines.{lines, is_empty, opens, name_of}
use Rattle.entries.specs.Entries.{Entry, Entries, ends, fails, holds, joined, lines_below, unless_nameless, opened, entries, entries_of}
use Rattle.entries.specs.Lines.{file_lines}
use Rattle.entries.specs.Held.{lengths_of, cut}
use Rattle.entries.specs.declared.held.LineRun.{LineRun}
use Rattle.entries.specs.Terms.Reading.{first_of, LineRead, LinesRead, HeaderRead, EntryRead}
use Rattle.entries.specs.declared.failed.Failed.{Failed}
use Rattle.entries.specs.declared.failed.Failed.TheVariants.{Faulty, Reading, Writing, Saying, NoMemory}
use Rattle.entries.proofs.Kept.{cut_joined, joined_more, map_more}
use Rattle.entries.proofs.Lines.{first_line, file_first, opens_first}

-- A line was read, or there was none.
pub line_none : (cr : Bool) (a b : Option (List ℕ)) (old new : List ℕ) → IfSome a (λ xs. new ≡ old ++ take_through 10 xs) → DropsThrough a b 10 → IsAtEnd a
    → IfSome a (λ xs. LineRead cr xs b old new false)
line_none cr None b old new n d e = tt
line_none cr (Some xs) b old new n d e =
    (d ∙ ap (λ (l : List ℕ). Some (drop_through 10 l)) e, e, n ∙ ap (λ (l : List ℕ). old ++ take_through 10 l) e ∙ append-nil old)

some_through : (xs : List ℕ) → 0 < length (take_through 10 xs) → 0 < length xs
some_through [] h = h
some_through (x ∷ xs) h = omega arith

pub line_some : (cr : Bool) (a b : Option (List ℕ)) (old mid new : List ℕ) → IfSome a (λ xs. mid ≡ old ++ take_through 10 xs) → DropsThrough a b 10
    → length old < length mid → ((xs : List ℕ) → mid ≡ old ++ take_through 10 xs → new ≡ old ++ first_line cr xs) → IfSome a (λ xs. LineRead cr xs b old new true)
line_some cr None b old mid new n d more f = tt
line_some cr (Some xs) b old mid new n d more f =
    let some : 0 < length (take_through 10 xs) = omega (arith, ap (λ (l : List ℕ). length l) n, length-append old (take_through 10 xs)) in
    (drop_through 10 xs, first_line cr xs, d, file_first cr xs (some_through xs some), opens_first cr xs, f xs n)

pub empty_is : (l : List ℕ) → length l ≡ 0 → is_empty l ≡ true
empty_is [] h = refl
empty_is (x ∷ l) h = absurd (let z : ⊥ = omega arith in z)

pub empty_not : (l : List ℕ) → length l ≢ 0 → is_empty l ≡ false
empty_not [] h = absurd (h refl)
empty_not (x ∷ l) h = refl

pub opens_is : (l : List ℕ) → get_or l 0 0 ≡ 62 → opens l ≡ true
opens_is [] h = absurd (let z : ⊥ = omega arith in z)
opens_is (x ∷ l) h = eq-eqb x 62 h

pub opens_not : (l : List ℕ) → get_or l 0 0 ≢ 62 → opens l ≡ false
opens_not [] h = refl
opens_not (x ∷ l) h = ne_eqb x 62 h

-- ---- Entries by lines.
module _ (l : List ℕ) (ls : List (List ℕ)) where
  pub line_empty : is_empty l ≡ true → entries false (l ∷ ls) ≡ entries false ls
  unfolding entries
  line_empty e = go l e
    where
      go : (m : List ℕ) → is_empty m ≡ true → entries false (m ∷ ls) ≡ entries false ls
      go [] q = refl
      go (x ∷ m) q = absurd (let z : ◌≡◌ {A = ℕ} 0 1 = ap (λ (t : Bool). cond t 1 0) q in (let y : ⊥ = omega arith in y))

  pub line_opens : (below : Bool) → opens l ≡ true → entries below (l ∷ ls) ≡ opened l (lines_below ls) (entries true ls)
  unfolding entries
  line_opens below e = rw e refl

  pub line_first : opens l ≡ false → is_empty l ≡ false → entries false (l ∷ ls) ≡ fails 14
  unfolding entries
  line_first e q = rw (e, q) refl

  pub line_below : opens l ≡ false → lines_below (l ∷ ls) ≡ l ∷ lines_below ls
  unfolding lines_below
  line_below e = rw e refl

  pub line_passed : opens l ≡ false → entries true (l ∷ ls) ≡ entries true ls
  unfolding entries
  line_passed e = rw e refl

  pub stop_below : opens l ≡ true → lines_below (l ∷ ls) ≡ []
  unfolding lines_below
  stop_below e = rw e refl

-- ---- Where bytes are known.
pub if_some : {b : Option (List ℕ)} {ys : List ℕ} (P : List ℕ → Type 0) → b ≡ Some ys → IfSome b P → P ys
if_some P e h = subst (λ (o : Option (List ℕ)). IfSome o P) e h

kept_some : (b c : Option (List ℕ)) (ys : List ℕ) → b ≡ Some ys → Keeps b c → c ≡ Some ys
kept_some b c ys e k = go c (subst (λ (o : Option (List ℕ)). Keeps o c) e k)
  where
    go : (o : Option (List ℕ)) → Keeps (Some ys) o → o ≡ Some ys
    go None h = absurd h
    go (Some zs) h = ap (λ (l : List ℕ). Some l) h

is_zero : Option ℕ → ℕ
is_zero None = 0
is_zero (Some x) = 1

value : Option ℕ → ℕ
value None = 0
value (Some x) = x

got : (x y : ℕ) → Some x ≡ Some y → x ≡ y
unfolding value
got x y q = ap (λ (o : Option ℕ). value o) q

opens_byte : (ys : List ℕ) (byte : ℕ) → Some byte ≡ first_of ys → opens ys ≡ eqb byte 62
unfolding is_zero
opens_byte [] byte e = absurd (let z : ⊥ = omega (arith, ap (λ (o : Option ℕ). is_zero o) e) in z)
opens_byte (y ∷ ys) byte e = ap (λ (n : ℕ). eqb n 62) (sym (got byte y e))

none_byte : (ys : List ℕ) → None ≡ first_of ys → ys ≡ []
unfolding is_zero
none_byte [] e = refl
none_byte (y ∷ ys) e = absurd (let z : ⊥ = omega (arith, ap (λ (o : Option ℕ). is_zero o) e) in z)

pub opens_long : (ys : List ℕ) → opens ys ≡ true → 0 < length ys
opens_long [] e = absurd (let z : ◌≡◌ {A = ℕ} 0 1 = ap (λ (t : Bool). cond t 1 0) e in (let y : ⊥ = omega arith in y))
opens_long (y ∷ ys) e = omega arith

-- ---- The lines below.
module _ (cr : Bool) where
  -- So far the lines ls were read, and `rest` is left.
  abbrev pub SoFar : List ℕ → Option (List ℕ) → List ℕ → List ℕ → Type 0
  SoFar xs rest letters lengths =
      (ys : List ℕ) × (ls : List (List ℕ)) × (rest ≡ Some ys)
      × (letters ≡ joined ls) × (lengths ≡ map (λ l. length l) ls)
      × (ls ++ lines_below (file_lines cr ys) ≡ lines_below (file_lines cr xs))
      × (entries true (file_lines cr xs) ≡ entries true (file_lines cr ys))

  pub so_far_start : (a : Option (List ℕ)) (letters lengths : List ℕ) → letters ≡ [] → lengths ≡ [] → IfSome a (λ xs. SoFar xs a letters lengths)
  unfolding joined
  so_far_start None letters lengths e f = tt
  so_far_start (Some xs) letters lengths e f = (xs, [], refl, e, f, refl, refl)

  snoc_append : (ls ms : List (List ℕ)) (l : List ℕ) → (ls ++ l ∷ []) ++ ms ≡ ls ++ l ∷ ms
  snoc_append [] ms l = refl
  snoc_append (m ∷ ls) ms l = ap (λ (z : List (List ℕ)). m ∷ z) (snoc_append ls ms l)

  none_shown : (ys : List ℕ) (byte : ℕ) → Some byte ≡ first_of ys → ys ≡ [] → ⊥
  unfolding is_zero
  none_shown ys byte e n = let z = ap (λ (o : Option ℕ). is_zero o) (e ∙ ap first_of n) in (let y : ⊥ = omega (arith, z) in y)

  line_turn : (xs ys : List ℕ) (ls : List (List ℕ)) (d : Option (List ℕ)) (byte : ℕ) (now new lengths lengths' : List ℕ) (some : Bool)
      → Some byte ≡ first_of ys → eqb byte 62 ≡ false → now ≡ joined ls → lengths ≡ map (λ l. length l) ls
      → ls ++ lines_below (file_lines cr ys) ≡ lines_below (file_lines cr xs)
      → entries true (file_lines cr xs) ≡ entries true (file_lines cr ys)
      → lengths' ≡ lengths ++ (length new - length now) ∷ []
      → LineRead cr ys d now new some → SoFar xs d new lengths'
  line_turn xs ys ls d byte now new lengths lengths' false p t n m q k e (r, z, f) = absurd (none_shown ys byte p z)
  line_turn xs ys ls d byte now new lengths lengths' true p t n m q k e (zs, l, r, fl, o, f) =
      let shut : opens l ≡ false = o ∙ opens_byte ys byte p ∙ t in
      let long : length new - length now ≡ length l = omega (arith, ap (λ (z : List ℕ). length z) f, length-append now l) in (
        zs,
        ls ++ l ∷ [],
        r,
        f ∙ ap (λ (z : List ℕ). z ++ l) n ∙ sym (joined_more ls l),
        e ∙ ap₂ (λ (z : List ℕ) (i : ℕ). z ++ i ∷ []) m long ∙ sym (map_more ls l),
        snoc_append ls (lines_below (file_lines cr zs)) l
            ∙ ap (λ (z : List (List ℕ)). ls ++ z) (sym (line_below l (file_lines cr zs) shut) ∙ sym (ap lines_below fl))
            ∙ q,
        k ∙ ap (λ (z : List (List ℕ)). entries true z) fl ∙ line_passed l (file_lines cr zs) shut,
      )

  pub so_far_turn : (a b c d : Option (List ℕ)) (now new lengths lengths' : List ℕ) (byte : ℕ) (some : Bool) → IfSome a (λ xs. SoFar xs b now lengths)
      → Keeps b c → IfSome b (λ ys. Some byte ≡ first_of ys) → eqb byte 62 ≡ false → IfSome c (λ ys. LineRead cr ys d now new some)
      → lengths' ≡ lengths ++ (length new - length now) ∷ []
      → IfSome a (λ xs. SoFar xs d new lengths')
  so_far_turn None b c d now new lengths lengths' byte some s k p t r e = tt
  so_far_turn (Some xs) b c d now new lengths lengths' byte some (ys, ls, f, n, m, q, h) k p t r e =
      line_turn xs ys ls d byte now new lengths lengths' some (if_some (λ zs. Some byte ≡ first_of zs) f p) t n m q h e
      (if_some (λ zs. LineRead cr zs d now new some) (kept_some b c ys f k) r)

  -- The lines end at the end of the file, and where a record opens.
  stop_nil : (ys : List ℕ) → ys ≡ [] → (lines_below (file_lines cr ys) ≡ []) × (entries true (file_lines cr ys) ≡ entries_of cr ys)
  unfolding file_lines lines lines_below entries
  stop_nil [] e = (refl, refl)
  stop_nil (y ∷ ys) e = absurd (let z : ⊥ = omega (arith, ap (λ (l : List ℕ). length l) e) in z)

  stop_opens : (ys : List ℕ) → opens ys ≡ true → (lines_below (file_lines cr ys) ≡ []) × (entries true (file_lines cr ys) ≡ entries_of cr ys)
  stop_opens ys o =
      let l : List ℕ = first_line cr ys in
      let ls : List (List ℕ) = file_lines cr (drop_through 10 ys) in
      let all : file_lines cr ys ≡ l ∷ ls = file_first cr ys (opens_long ys o) in
      let op : opens l ≡ true = opens_first cr ys ∙ o in (
        ap lines_below all ∙ stop_below l ls op,
        ap (λ (m : List (List ℕ)). entries true m) all ∙ line_opens l ls true op ∙ sym (line_opens l ls false op)
            ∙ sym (ap (λ (m : List (List ℕ)). entries false m) all),
      )

  stopped : (xs ys : List ℕ) (ls : List (List ℕ)) (c : Option (List ℕ)) (letters : List ℕ) (runs : List LineRun) → c ≡ Some ys
      → letters ≡ joined ls → lengths_of runs ≡ map (λ l. length l) ls
      → ls ++ lines_below (file_lines cr ys) ≡ lines_below (file_lines cr xs)
      → entries true (file_lines cr xs) ≡ entries true (file_lines cr ys)
      → (lines_below (file_lines cr ys) ≡ []) × (entries true (file_lines cr ys) ≡ entries_of cr ys)
      → LinesRead cr xs c letters runs
  stopped xs ys ls c letters runs e n m q k (g, f) = (
    ys,
    e,
    ap₂ (λ (a b : List ℕ). cut a b) m n ∙ cut_joined ls ∙ sym (append-nil ls) ∙ ap (λ (z : List (List ℕ)). ls ++ z) (sym g) ∙ q,
    k ∙ f,
  )

  pub so_far_opens : (a b c : Option (List ℕ)) (letters lengths : List ℕ) (runs : List LineRun) (byte : ℕ) → IfSome a (λ xs. SoFar xs b letters lengths)
      → lengths_of runs ≡ lengths
      → Keeps b c → IfSome b (λ ys. Some byte ≡ first_of ys) → eqb byte 62 ≡ true → IfSome a (λ xs. LinesRead cr xs c letters runs)
  so_far_opens None b c letters lengths runs byte s e k p t = tt
  so_far_opens (Some xs) b c letters lengths runs byte (ys, ls, f, n, m, q, h) e k p t =
      stopped xs ys ls c letters runs (kept_some b c ys f k) n (e ∙ m) q h (stop_opens ys (opens_byte ys byte (if_some (λ zs. Some byte ≡ first_of zs) f p) ∙ t))

  pub so_far_end : (a b c : Option (List ℕ)) (letters lengths : List ℕ) (runs : List LineRun) → IfSome a (λ xs. SoFar xs b letters lengths)
      → lengths_of runs ≡ lengths
      → Keeps b c → IfSome b (λ ys. None ≡ first_of ys) → IfSome a (λ xs. LinesRead cr xs c letters runs)
  so_far_end None b c letters lengths runs s e k p = tt
  so_far_end (Some xs) b c letters lengths runs (ys, ls, f, n, m, q, h) e k p =
      stopped xs ys ls c letters runs (kept_some b c ys f k) n (e ∙ m) q h (stop_nil ys (none_byte ys (if_some (λ zs. None ≡ first_of zs) f p)))

  -- ---- The line that opens a record.
  -- Only empty lines were passed.
  abbrev pub Passed : List ℕ → Option (List ℕ) → Type 0
  Passed xs rest = (ys : List ℕ) × (rest ≡ Some ys) × (entries_of cr xs ≡ entries_of cr ys)

  pub passed_start : (a : Option (List ℕ)) → IfSome a (λ xs. Passed xs a)
  passed_start None = tt
  passed_start (Some xs) = (xs, refl, refl)

  module _ (a b d : Option (List ℕ)) (none line : List ℕ) (e : none ≡ []) (s : IfSome a (λ xs. Passed xs b)) where
    as_line : (ys : List ℕ) → LineRead cr ys d none line true → (zs : List ℕ) × (d ≡ Some zs) × (file_lines cr ys ≡ line ∷ file_lines cr zs)
    as_line ys (zs, l, r, ls, p, n) =
        let same : line ≡ l = n ∙ ap (λ (m : List ℕ). m ++ l) e in (zs, r, ls ∙ ap (λ (m : List ℕ). m ∷ file_lines cr zs) (sym same))

    pub passed_empty : IfSome b (λ ys. LineRead cr ys d none line true) → is_empty line ≡ true → IfSome a (λ xs. Passed xs d)
    passed_empty r h = go a s
      where
        go : (o : Option (List ℕ)) → IfSome o (λ xs. Passed xs b) → IfSome o (λ xs. Passed xs d)
        go None t = tt
        go (Some xs) (ys, q, k) =
            let (zs, f, ls) = as_line ys (if_some (λ m. LineRead cr m d none line true) q r) in
            (zs, f, k ∙ ap (λ (m : List (List ℕ)). entries false m) ls ∙ line_empty line (file_lines cr zs) h)

    pub passed_opens : IfSome b (λ ys. LineRead cr ys d none line true) → opens line ≡ true → IfSome a (λ xs. HeaderRead cr xs d line (Ok true))
    passed_opens r h = go a s
      where
        go : (o : Option (List ℕ)) → IfSome o (λ xs. Passed xs b) → IfSome o (λ xs. HeaderRead cr xs d line (Ok true))
        go None t = tt
        go (Some xs) (ys, q, k) =
            let (zs, f, ls) = as_line ys (if_some (λ m. LineRead cr m d none line true) q r) in
            (zs, f, k ∙ ap (λ (m : List (List ℕ)). entries false m) ls ∙ line_opens line (file_lines cr zs) false h)

    pub passed_fault : IfSome b (λ ys. LineRead cr ys d none line true) → opens line ≡ false → is_empty line ≡ false
        → IfSome a (λ xs. entries_of cr xs ≡ fails 14)
    passed_fault r h g = go a s
      where
        go : (o : Option (List ℕ)) → IfSome o (λ xs. Passed xs b) → IfSome o (λ xs. entries_of cr xs ≡ fails 14)
        go None t = tt
        go (Some xs) (ys, q, k) =
            let (zs, f, ls) = as_line ys (if_some (λ m. LineRead cr m d none line true) q r) in
            k ∙ ap (λ (m : List (List ℕ)). entries false m) ls ∙ line_first line (file_lines cr zs) h g

    ended : (ys : List ℕ) → ys ≡ [] → entries_of cr ys ≡ ends
    unfolding file_lines lines entries
    ended [] q = refl
    ended (y ∷ ys) q = absurd (let z : ⊥ = omega (arith, ap (λ (l : List ℕ). length l) q) in z)

    pub passed_end : IfSome b (λ ys. LineRead cr ys d none line false) → IfSome a (λ xs. entries_of cr xs ≡ ends)
    passed_end r = go a s
      where
        go : (o : Option (List ℕ)) → IfSome o (λ xs. Passed xs b) → IfSome o (λ xs. entries_of cr xs ≡ ends)
        go None t = tt
        go (Some xs) (ys, q, k) =
            let (f, n, g) = if_some (λ m. LineRead cr m d none line false) q r in k ∙ ended ys n

  -- ---- An entry.
  named : (name : List ℕ) (es : Entries) → 0 < length name → unless_nameless name es ≡ es
  named [] es h = absurd (let b : ⊥ = omega arith in b)
  named (b ∷ name) es h = refl

  nameless : (name : List ℕ) (es : Entries) → length name ≡ 0 → unless_nameless name es ≡ fails 15
  nameless [] es h = refl
  nameless (b ∷ name) es h = absurd (let z : ⊥ = omega arith in z)

  module _ (a b : Option (List ℕ)) (line : List ℕ) (h : IfSome a (λ xs. HeaderRead cr xs b line (Ok true))) where
    pub entry_read : (d : Option (List ℕ)) (letters : List ℕ) (runs : List LineRun) → 0 < length (name_of line) → IfSome b (λ ys. LinesRead cr ys d letters runs)
        → IfSome a (λ xs. EntryRead cr xs d (record { header = line; lines = cut (lengths_of runs) letters }) (Ok true))
    entry_read d letters runs some r = go a h
      where
        go : (o : Option (List ℕ)) → IfSome o (λ xs. HeaderRead cr xs b line (Ok true))
            → IfSome o (λ xs. EntryRead cr xs d (record { header = line; lines = cut (lengths_of runs) letters }) (Ok true))
        go None t = tt
        go (Some xs) (ys, q, k) =
            let (zs, f, ls, c) = if_some (λ m. LinesRead cr m d letters runs) q r in (
              zs,
              f,
              k ∙ named (name_of line) _ some
                  ∙ ap₂ (λ (m : List (List ℕ)) (o : Entries). holds (record { header = line; lines = m }) o) (sym ls) c,
            )

    pub entry_nameless : length (name_of line) ≡ 0 → IfSome a (λ xs. entries_of cr xs ≡ fails 15)
    entry_nameless z = go a h
      where
        go : (o : Option (List ℕ)) → IfSome o (λ xs. HeaderRead cr xs b line (Ok true)) → IfSome o (λ xs. entries_of cr xs ≡ fails 15)
        go None t = tt
        go (Some xs) (ys, q, k) = k ∙ nameless (name_of line) _ z

  same_fault : (f : Failed) (xs line : List ℕ) (b d : Option (List ℕ)) (e : Entry) → HeaderRead cr xs b line (Err f) → EntryRead cr xs d e (Err f)
  same_fault (Faulty x) xs line b d e h = h
  same_fault (Reading x) xs line b d e h = tt
  same_fault (Writing x) xs line b d e h = h
  same_fault (Saying x) xs line b d e h = h
  same_fault NoMemory xs line b d e h = h

  pub entry_fault : (f : Failed) (a b d : Option (List ℕ)) (line : List ℕ) (e : Entry) → IfSome a (λ xs. HeaderRead cr xs b line (Err f))
      → IfSome a (λ xs. EntryRead cr xs d e (Err f))
  entry_fault f None b d line e h = tt
  entry_fault f (Some xs) b d line e h = same_fault f xs line b d e h
