use Rattle.std.proofs.Common.{◌≡◌, ◌≢◌, ℕ, List, IfSome, None, Some, ◌++◌, All, length, drop, refl, sym, ap, subst, ◌∙◌, rules, true, Ok, le_refl, drop_of_length-le}
use lib.Seq.{drop-append-le}
use Rattle.std.proofs.lemmas.List.Elements.{All-append}
use Rattle.std.specs.Prelude.{Option}
use Rattle.std.specs.Io.{StartsWith}
use Rattle.std.proofs.KnownBytes.{starts_with_rest, Consumes-nil, Consumes-more}
use Rattle.std.proofs.BufReadLemmas.{Consumes_through}
use Rattle.std.specs.Io.BufRead.{take_through}
use Rattle.std.specs.Io.KnownBytes.{Consumes}
use Rattle.std.proofs.Transfers.{starts_with_of_eq, starts_with_trans, starts_with_length, All-of_none_appended}
use Rattle.entries.proofs.reading.read_through.Goals as goal

-- What two calls appended, one after the other.
past_both : (old mid new : List ℕ) → StartsWith mid old → StartsWith new mid → drop (length old) new ≡ drop (length old) mid ++ drop (length mid) new
past_both old mid new p q = ap (drop (length old)) (starts_with_rest new mid q) ∙ drop-append-le (length old) mid _ (starts_with_length mid old p)

weaker : (known : Option (List ℕ)) (P Q : List ℕ → Type 0) → ((xs : List ℕ) → P xs → Q xs) → IfSome known P → IfSome known Q
weaker None P Q f h = tt
weaker (Some xs) P Q f h = f xs h

pub loop-init : goal.loop-init
loop-init g c = (
  starts_with_of_eq _ _ refl,
  All-of_none_appended c.args.line.now.items _ _ refl,
  subst (Consumes _ _) (sym (drop_of_length-le c.args.line.now.items (le_refl _))) (Consumes-nil _),
)

pub loop-preserved : goal.loop-preserved
loop-preserved g c =
    let step = c.append_line.ensures in (
      starts_with_trans _ _ _ step.appends c.loop.invariant.0,
      subst (All (λ x. x ≢ 10)) (sym (past_both _ _ _ c.loop.invariant.0 step.appends)) (All-append (λ x. x ≢ 10) _ _ c.loop.invariant.1 (step.no_end_unless_done (search rules))),
      Consumes-more _ _ _ _ _ _ c.loop.invariant.0 step.appends c.loop.invariant.2 step.bytes,
    )

pub returns-then-branch : goal.returns-then-branch
returns-then-branch g c =
    let step = c.append_line.ensures in
    let done : c.append_line.result ≡ Ok true = search rules in
    let read = Consumes_through 10 _ _ _ _ _ c.loop.invariant.2 c.loop.invariant.1 step.bytes step.stops (step.done_at_end done) (step.end done) in
    let old = c.args.line.now.items in
    let whole = starts_with_rest _ _ (starts_with_trans _ _ _ step.appends c.loop.invariant.0) ∙ ap (λ l. old ++ l) (past_both _ _ _ c.loop.invariant.0 step.appends) in
    let new = c.append_line.new.line.items in
    let parts = drop (length old) c.loop.line.items ++ drop (length c.loop.line.items) new in
    record {
      appends = starts_with_trans _ _ _ step.appends c.loop.invariant.0;
      bytes = weaker (g.R.Read.remaining c.args.reader.now) (λ xs. parts ≡ take_through 10 xs) (λ xs. new ≡ old ++ take_through 10 xs) (λ xs e. whole ∙ ap (λ l. old ++ l) e) read.0;
      rest = read.1;
    }
