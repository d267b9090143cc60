-- A list of writers of which the first gets a text, and the others nothing.
use Rattle.std.proofs.Common.{ℕ, zero, suc, ◌<◌, List, [], map, length, get_or, set, refl, sym, arith, subst, Ok, Err}
use Rattle.std.specs.Prelude.{Option, Result}
use Rattle.std.specs.Io.KnownBytes.{Appends}
use Rattle.std.proofs.KnownBytes.{Appends-nil}
use Rattle.entries.specs.Outcome.{held, Sent, AllAppend, AllSent}
use Rattle.forms.proofs.Writers.{Writers, UpTo, upto_start, upto_more, upto_stop}
use Rattle.contigs_text.specs.Terms.Report.{to_first}

first_all : (a b : Writers) (text : List ℕ) → UpTo 1 a b (to_first text) → AllAppend a b (to_first text)
first_all a b text u zero = u.before 0 (omega arith)
first_all a b text u (suc i) =
    subst (λ (o : Option (List ℕ)). Appends (held a (suc i)) o []) (sym (u.after (suc i) (omega arith))) (Appends-nil (held a (suc i)))

module _ {A E W : Type 0} (f : W → Option (List ℕ)) (ws : List W) (x w : W) (text : List ℕ) (some : 0 < length ws) where
  pub first_sent : (r : Result A E) → Sent (f (get_or ws 0 x)) (f w) text r → AllSent (map f ws) (map f (set ws 0 w)) (to_first text) r
  first_sent (Ok v) p =
      first_all (map f ws) (map f (set ws 0 w)) text
      (upto_more f (map f ws) ws 0 x w (to_first text) text some refl (upto_start (map f ws) (to_first text)) p)
  first_sent (Err e) p = (0, upto_stop f (map f ws) ws 0 x w (to_first text) text some refl (upto_start (map f ws) (to_first text)) p)
