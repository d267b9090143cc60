-- What is left of the list after one reader and then another.
use Rattle.std.proofs.Common.{◌≡◌, ℕ, zero, suc, ◌+◌, true, List, drop, get_or, ap, ◌∙◌, sym, arith}
use Rattle.std.proofs.lemmas.List.{get_or-drop, drop-drop}
use Rattle.replay.specs.Words.{ends_word, Follows}

pub stays : {xs ys : List ℕ} → ys ≡ xs → Follows xs ys
stays e = record { read = 0; rest = e; ended = λ i h. absurd (let b : ⊥ = omega arith in b) }

ends : (xs ys : List ℕ) (a b i : ℕ) → ys ≡ drop a xs → ((j : ℕ) → j + 1 ≡ a → ends_word (get_or xs j 0) ≡ true) → ((j : ℕ) → j + 1 ≡ b → ends_word (get_or ys j 0) ≡ true)
    → i + 1 ≡ a + b → ends_word (get_or xs i 0) ≡ true
ends xs ys a zero i e f g h = f i (omega arith)
ends xs ys a (suc b) i e f g h =
    let same : get_or ys b 0 ≡ get_or xs (a + b) 0 = ap (λ (l : List ℕ). get_or l b 0) e ∙ get_or-drop a xs b 0 in
    let last : i ≡ a + b = omega arith in
    ap (λ (x : ℕ). ends_word x) (ap (λ (k : ℕ). get_or xs k 0) last ∙ sym same) ∙ g b (omega arith)

pub then : {xs ys zs : List ℕ} → Follows xs ys → Follows ys zs → Follows xs zs
then {xs} {ys} {zs} f g = record {
  read = f.read + g.read;
  rest = g.rest ∙ ap (λ (l : List ℕ). drop g.read l) f.rest ∙ drop-drop g.read f.read xs;
  ended = λ i. ends xs ys f.read g.read i f.rest f.ended g.ended;
}

pub ruleset following = (stays, then)
