-- Texts by numbers.
use Rattle.std.proofs.Common.{◌≡◌, ℕ, zero, suc, ◌+◌, ◌-◌, ◌<◌, List, [], ◌++◌, refl, sym, ap, ◌∙◌, arith, append_assoc, append-nil, subst, ◌∷◌, length, take, take_all, drop, drop_of_length-le, drop-cons, get_or, Bool, true, false, cond}
use Rattle.std.proofs.lemmas.List.{take_more}
use Rattle.std.specs.Prelude.{Option}
use Rattle.std.specs.Io.KnownBytes.{Appends}
use Rattle.std.proofs.KnownBytes.{Appends-trans, Appends-nil}
use Rattle.entries.specs.Outcome.{Front}
use Rattle.entries.proofs.Sending.{front_all, front_cut, front_then, front_as}
use Rattle.report.specs.Ascii.{ascii}
use Rattle.report.specs.Text.{decimal}
use Rattle.checks.specs.declared.refusal.Refusal.{Refusal}
use Rattle.checks.specs.declared.refusal.Refusal.TheVariants.{KmerOutside, HighByte, TooFewLetters, WindowBelow, WindowAbove, BadThreshold, BadGc, MinStartBelow, BadXdrop, TooManyLetters, ShortSlice, BadReplacement, OtherByte, UnusualList, BadQuestion, NoBudget, PlaceOutside, HighTable, OutsideProfile, BadLength}
use Rattle.checks.specs.Refusal.{number, text}
use Rattle.forms.specs.Notes.{escaped, shown, text_numbered, earns, first_place, detail, refused_note}
use Rattle.forms.specs.Each.{each}

module _ (f : ℕ → List ℕ) where
  pub each_none : each f 0 ≡ []
  unfolding each
  each_none = refl

  pub each_more : (n : ℕ) → each f (n + 1) ≡ each f n ++ f n
  unfolding each
  each_more n = ap (each f) (let e : n + 1 ≡ suc n = omega arith in e)

  -- What follows the first n.
  each_from : (n m : ℕ) → (rest : List ℕ) × (each f (n + m) ≡ each f n ++ rest)
  unfolding each
  each_from n zero = ([], ap (each f) (let e : n + 0 ≡ n = omega arith in e) ∙ sym (append-nil (each f n)))
  each_from n (suc m) =
      let (rest, q) = each_from n m in
      (rest ++ f (n + m), ap (each f) (let e : n + suc m ≡ suc (n + m) = omega arith in e) ∙ ap (λ (l : List ℕ). l ++ f (n + m)) q ∙ append_assoc (each f n) rest (f (n + m)))

  module _ (a b : Option (List ℕ)) where
    pub sent_start : Appends a a (each f 0)
    sent_start = subst (λ (l : List ℕ). Appends a a l) (sym each_none) (Appends-nil a)

    pub sent_more : (n : ℕ) (c : Option (List ℕ)) (line : List ℕ) → Appends a b (each f n) → line ≡ f n → Appends b c line → Appends a c (each f (n + 1))
    sent_more n c line p e q = subst (λ (l : List ℕ). Appends a c l) (ap (λ (l : List ℕ). each f n ++ l) e ∙ sym (each_more n)) (Appends-trans a b c (each f n) line p q)

    -- A line failed.
    pub cut_off : (n count : ℕ) (c : Option (List ℕ)) (line : List ℕ) → n < count → Appends a b (each f n) → line ≡ f n → Front b c line → Front a c (each f count)
    cut_off n count c line h p e q =
        let m : (m : ℕ) × (count ≡ n + 1 + m) = (count - (n + 1), omega arith) in
        let (k, s) = m in
        let (rest, r) = each_from (n + 1) k in
        front_as a c _ _
        (ap (λ (l : List ℕ). (each f n ++ l) ++ rest) e ∙ ap (λ (l : List ℕ). l ++ rest) (sym (each_more n)) ∙ sym r ∙ ap (each f) (sym s))
        (front_cut a c (each f n ++ line) rest (front_then a b c (each f n) line p q))

    -- Nothing of a line was written.
    pub cut_before : (n count : ℕ) → n < count → Appends a b (each f n) → Front a b (each f count)
    cut_before n count h p =
        let m : (m : ℕ) × (count ≡ n + m) = (count - n, omega arith) in
        let (k, s) = m in
        let (rest, r) = each_from n k in
        front_as a b _ _ (sym r ∙ ap (each f) (sym s)) (front_cut a b (each f n) rest (front_all a b (each f n) p))

-- What was appended, and then more.
pub more : (t a b x y : List ℕ) → a ≡ t ++ x → b ≡ a ++ y → b ≡ t ++ (x ++ y)
more t a b x y p q = q ∙ ap (λ (l : List ℕ). l ++ y) p ∙ append_assoc t x y

-- ---- A name as it is shown, byte by byte.
shown_append : (xs ys : List ℕ) → shown (xs ++ ys) ≡ shown xs ++ shown ys
unfolding shown
shown_append [] ys = refl
shown_append (x ∷ xs) ys = ap (λ (l : List ℕ). escaped x ++ l) (shown_append xs ys) ∙ sym (append_assoc (escaped x) (shown xs) (shown ys))

pub shown_start : (t xs : List ℕ) → t ≡ t ++ shown (take 0 xs)
unfolding shown
shown_start t [] = sym (append-nil t)
shown_start t (x ∷ xs) = sym (append-nil t)

pub shown_more : (t a b xs : List ℕ) (i : ℕ) → i < length xs → a ≡ t ++ shown (take i xs) → b ≡ a ++ escaped (get_or xs i 0) → b ≡ t ++ shown (take (i + 1) xs)
unfolding shown
shown_more t a b xs i h p q =
    more t a b (shown (take i xs)) (escaped (get_or xs i 0)) p q
    ∙ ap (λ (l : List ℕ). t ++ (shown (take i xs) ++ l)) (sym (append-nil (escaped (get_or xs i 0))))
    ∙ ap (λ (l : List ℕ). t ++ l) (sym (shown_append (take i xs) (get_or xs i 0 ∷ [])))
    ∙ ap (λ (l : List ℕ). t ++ shown l) (sym (take_more xs i 0 h))

pub shown_all : (t a xs : List ℕ) (i : ℕ) → i ≡ length xs → a ≡ t ++ shown (take i xs) → a ≡ t ++ shown xs
shown_all t a xs i e p = p ∙ ap (λ (l : List ℕ). t ++ shown l) (take_all i xs (omega arith))

-- A refusal's text stands at its number.
text_is : (r : Refusal) → text r ≡ text_numbered (number r)
unfolding text_numbered
text_is KmerOutside = refl
text_is HighByte = refl
text_is TooFewLetters = refl
text_is WindowBelow = refl
text_is WindowAbove = refl
text_is BadThreshold = refl
text_is BadGc = refl
text_is MinStartBelow = refl
text_is BadXdrop = refl
text_is TooManyLetters = refl
text_is ShortSlice = refl
text_is BadReplacement = refl
text_is OtherByte = refl
text_is UnusualList = refl
text_is BadQuestion = refl
text_is NoBudget = refl
text_is PlaceOutside = refl
text_is HighTable = refl
text_is OutsideProfile = refl
text_is BadLength = refl

-- ---- The first byte that earns a refusal.
module _ (high : Bool) (s : List ℕ) (i : ℕ) where
  module _ (h : i < length s) (r : first_place high s ≡ i + first_place high (drop i s)) where
    here : first_place high (drop i s) ≡ cond (earns high (get_or s i 0)) 0 (first_place high (drop (i + 1) s) + 1)
    unfolding first_place
    here =
        ap (first_place high) (drop-cons s i 0 h)
        ∙ ap (λ (n : ℕ). cond (earns high (get_or s i 0)) 0 (first_place high (drop n s) + 1)) (let e : suc i ≡ i + 1 = omega arith in e)

    pub place_found : (t : Bool) → t ≡ earns high (get_or s i 0) → t ≡ true → i ≡ first_place high s
    place_found t e p =
        let z : first_place high (drop i s) ≡ 0 = here ∙ ap (λ (b : Bool). cond b 0 (first_place high (drop (i + 1) s) + 1)) (sym e ∙ p) in
        omega arith

    pub place_more : (t : Bool) → t ≡ earns high (get_or s i 0) → t ≡ false → first_place high s ≡ (i + 1) + first_place high (drop (i + 1) s)
    place_more t e p =
        let z : first_place high (drop i s) ≡ first_place high (drop (i + 1) s) + 1 = here ∙ ap (λ (b : Bool). cond b 0 (first_place high (drop (i + 1) s) + 1)) (sym e ∙ p) in
        omega arith

  pub place_none : i ≡ length s → first_place high s ≡ i + first_place high (drop i s) → length s ≡ first_place high s
  unfolding first_place
  place_none e r =
      let z : first_place high (drop i s) ≡ 0 = ap (first_place high) (drop_of_length-le s (omega arith)) in
      omega arith

-- The line about a refused record.
module _ (t a b c d e f f' g name s : List ℕ) (r : Refusal) (n : ℕ) (words : List ℕ) (number_is : n ≡ number r) (words_are : words ≡ text r) where
  pub note_is : a ≡ t ++ ascii "cisternpea: " → b ≡ a ++ shown name → c ≡ b ++ ascii ": refused (" → d ≡ c ++ decimal n
      → e ≡ d ++ ascii "): " → f ≡ e ++ words → f' ≡ f ++ detail (number r) s → g ≡ f' ++ ascii "\n" → g ≡ t ++ refused_note name (number r) s
  unfolding refused_note
  note_is p q o u v w y x =
      more t a g (ascii "cisternpea: ") _ p (more a b g (shown name) _ q (more b c g (ascii ": refused (") _ o
      (more c d g (decimal (number r)) _ (u ∙ ap (λ (m : ℕ). c ++ decimal m) number_is) (more d e g (ascii "): ") _ v
      (more e f g (text_numbered (number r)) _ (w ∙ ap (λ (l : List ℕ). e ++ l) (words_are ∙ text_is r)) (more f f' g (detail (number r) s) (ascii "\n") y x))))))
