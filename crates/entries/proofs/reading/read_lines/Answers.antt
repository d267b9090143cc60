use Rattle.std.proofs.Common.{◌≡◌, ◌-◌, ◌++◌, ◌∷◌, [], ℕ, length, eq-eqb, ne_eqb, refl, ap, ◌∙◌, rules}
use Rattle.entries.specs.Held.{lengths_of}
use Rattle.entries.proofs.Steps.{so_far_start, so_far_turn, so_far_opens, so_far_end}
use Rattle.entries.proofs.Kept.{no_lines}
use Rattle.entries.proofs.reading.read_lines.Goals as goal

pub loop-init : goal.loop-init
loop-init g c = so_far_start c.args.cr _ _ _ c.clear.ensures.items (no_lines _ _ c.clear-2.ensures.items refl)

pub loop-preserved : goal.loop-preserved
loop-preserved g c =
    let more : c.saturating_sub.result ≡ length c.read_line.new.line.items - length c.loop.letters.items = search rules in
    so_far_turn c.args.cr _ _ _ _ _ _ _ _ c.in-Some.byte _ c.loop.invariant c.peek.ensures.kept (rw c.in-Some.is at c.in_ok-peek.ensures.byte)
    (ne_eqb _ _ c.if-byte-eq62.false) c.in_ok-read_line-in-Some.ensures
    (c.in_ok-run-in-Some.ensures ∙ ap (λ (n : ℕ). lengths_of (c.loop.runs.items ++ c.loop.run ∷ []) ++ n ∷ []) more)

pub returns-in-None : goal.returns-in-None
returns-in-None g c = so_far_end c.args.cr _ _ _ _ _ _ c.loop.invariant (ap lengths_of c.in_ok-push-in-None.ensures.items) c.peek.ensures.kept (rw c.in-None.is at c.in_ok-peek.ensures.byte)

pub returns-then-byte-eq62 : goal.returns-then-byte-eq62
returns-then-byte-eq62 g c =
    so_far_opens c.args.cr _ _ _ _ _ _ c.in-Some.byte c.loop.invariant (ap lengths_of c.in_ok-push-in-Some.ensures.items) c.peek.ensures.kept (rw c.in-Some.is at c.in_ok-peek.ensures.byte)
    (eq-eqb _ _ c.if-byte-eq62.true)
