use Rattle.std.proofs.Common.{◌≡◌, sym, ap, ◌∙◌, get_or, ℕ, ◌/◌, List, Bool, ◌&&◌}
use Rattle.scans.proofs.Windows.{count_in}
use Rattle.letters.specs.Terms.Entry.{decode}
use mir.Syntax.{w64}
use mir.Val.{SFits}
use mir.Facts.{to_z-of_z}
use borrow.Author.Rules.{rules}
use Rattle.step.specs.Step.{last_q_without}
use Rattle.step.specs.Terms.KnownCounts.{ends, counts_less, carry_less}
use Rattle.step.proofs.Moving.{oldest_below, oldest_counted, less_oldest, left}
use Rattle.step.proofs.window.Window.leave.Goals as goal
use Rattle.step.proofs.window.Window.leave.Goals.{Joined-self-is_at, then-self-is_at, else-self-is_at}

pub sum_without-requires : goal.sum_without-requires
sum_without-requires c =
    let w = c.requires.windowed in (
      rw w.counts_long (oldest_below w c.requires.len_value.0),
      count_in w (get_or c.args.queue.now c.args.self.head 0 / 2),
      oldest_counted w c.requires.len_value.0,
    )

pub lower_entry-requires : goal.lower_entry-requires
lower_entry-requires c = rw c.requires.len_value.1 (oldest_below c.requires.windowed c.requires.len_value.0)

ends_is : (c : Joined-self-is_at) → let w = c.args.self in (w.live && c.is_at.result) ≡ ends w.live w.last_q
ends_is c = let last_fits : SFits w64 c.args.self.last_q = search rules in rw (c.is_at.ensures, to_z-of_z last_fits)

-- The window where both ways meet, and the scan counts.
met_window : (c : Joined-self-is_at) → let w = c.args.self in
    c.if-self-is_at.self ≡ less_oldest w c.sum_without.result (carry_less (ends w.live w.last_q) w.carry)
met_window c =
    let w = c.args.self in
    let by = less_oldest w c.sum_without.result in
    elim c.if-self-is_at.branch [
      | then-self-is_at t ↦ t.self-is ∙ ap by (t.none-self.ensures ∙ ap (λ (b : Bool). carry_less b w.carry) (sym t.if-self-is_at.true ∙ ends_is c))
      | else-self-is_at s ↦ s.self-is ∙ ap by (ap (λ (b : Bool). carry_less b w.carry) (sym s.if-self-is_at.false ∙ ends_is c))
    ]

met_counts : (c : Joined-self-is_at) → let a = c.args in
    c.if-self-is_at.scan_counts ≡ counts_less (ends a.self.live a.self.last_q) a.scan_counts.now (decode (get_or a.queue.now a.self.head 0))
met_counts c =
    let a = c.args in
    let less : Bool → List ℕ = λ b. counts_less b a.scan_counts.now (decode (get_or a.queue.now a.self.head 0)) in
    elim c.if-self-is_at.branch [
      | then-self-is_at t ↦ t.scan_counts-is ∙ t.lower_entry.ensures ∙ ap less (sym t.if-self-is_at.true ∙ ends_is c)
      | else-self-is_at s ↦ s.scan_counts-is ∙ ap less (sym s.if-self-is_at.false ∙ ends_is c)
    ]

pub returns : goal.returns
returns c =
    let m = (goal.at.returns c).Joined-self-is_at in
    let last_fits : SFits w64 c.args.self.last_q = search rules in
    let last = to_z-of_z {w = w64} {z = c.last_q_without.result} (record { sfits = c.last_q_without.type_inv }) in
    left c.requires.windowed c.requires.len_value.0 (met_window m) c.sum_without.ensures.0 (last ∙ c.last_q_without.ensures ∙ ap last_q_without (to_z-of_z last_fits))
    c.ring_index.ensures c.sum_without.ensures.1 (met_counts m)
