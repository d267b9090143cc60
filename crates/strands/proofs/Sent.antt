-- The same bytes to each writer.
use Rattle.std.proofs.Common.{◌≡◌, ℕ, ◌≤◌, ltb, List, length, sym, arith, subst, None, ltb-true, ltb-false}
use Rattle.std.proofs.lemmas.List.{get_or_past}
use Rattle.std.specs.Prelude.{Option}
use Rattle.std.specs.Io.KnownBytes.{Appends}
use Rattle.entries.specs.Outcome.{held, AllAppend}
use Rattle.entries.proofs.Lines.{by_test}
use Rattle.forms.proofs.Writers.{Writers, UpTo}

none_known : (a b : Option (List ℕ)) (xs : List ℕ) → a ≡ None → Appends a b xs
none_known a b xs e = subst (λ (o : Option (List ℕ)). Appends o b xs) (sym e) tt

pub all_sent : (a b : Writers) (n : ℕ) (g : ℕ → List ℕ) → n ≡ length a → UpTo n a b g → AllAppend a b g
all_sent a b n g e u = λ i.
    by_test (ltb i n) (λ t. u.before i (ltb-true i n t))
    (λ t. none_known (held a i) (held b i) (g i) (get_or_past a i None (let y : n ≤ i = ltb-false i n t in omega arith)))
