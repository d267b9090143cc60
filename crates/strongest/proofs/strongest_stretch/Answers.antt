-- The answer is that of the places read.
use Rattle.std.proofs.Common.{ℕ, ◌-◌, length, sym, ap, ◌∙◌, arith, w64}
use mir.ValLaws.{to_z-of_z}
use Rattle.checks.specs.Refusal.{number_of}
use Rattle.strongest.specs.Strongest.{Asked}
use Rattle.strongest.specs.Call.{asked_of}
use Rattle.strongest.proofs.Admitting.{Admitted, admitted}
use Rattle.strongest.proofs.Answers.{bounds, narrow, small, size_within, found}
use Rattle.strongest.proofs.strongest_stretch.Goals as goal
use Rattle.strongest.proofs.strongest_stretch.Goals.{In_ok-check}

-- A request that was not refused.
abbrev Q : In_ok-check → Asked
Q c = asked_of c.args.request.now

taken : (c : In_ok-check) → Admitted (Q c) (length c.args.codes.now) (length c.args.scan_counts.now)
taken c = admitted (Q c) _ _ (sym c.check.ensures ∙ ap number_of c.in_ok-check.was)

pub read_places-reading-requires-clause-kmer_nonzero : goal.read_places-reading-requires-clause-kmer_nonzero
read_places-reading-requires-clause-kmer_nonzero c =
    (taken (goal.at.read_places-reading-requires-clause-kmer_nonzero c).In_ok-check).kmer_low

pub read_places-reading-requires-clause-kmer_small : goal.read_places-reading-requires-clause-kmer_small
read_places-reading-requires-clause-kmer_small c =
    (taken (goal.at.read_places-reading-requires-clause-kmer_small c).In_ok-check).kmer_high

pub read_places-reading-requires-clause-some_steps : goal.read_places-reading-requires-clause-some_steps
read_places-reading-requires-clause-some_steps c =
    let x = (goal.at.read_places-reading-requires-clause-some_steps c).In_ok-check in
    (bounds (Q x) _ _ (taken x) _ _ c.min-available.ensures c.min-steps.ensures).0

pub read_places-reading-requires-clause-steps_inside : goal.read_places-reading-requires-clause-steps_inside
read_places-reading-requires-clause-steps_inside c =
    let x = (goal.at.read_places-reading-requires-clause-steps_inside c).In_ok-check in
    (bounds (Q x) _ _ (taken x) _ _ c.min-available.ensures c.min-steps.ensures).1

pub read_places-reading-requires-clause-steps_small : goal.read_places-reading-requires-clause-steps_small
read_places-reading-requires-clause-steps_small c =
    let x = (goal.at.read_places-reading-requires-clause-steps_small c).In_ok-check in
    let A = taken x in
    omega (arith, (bounds (Q x) _ _ A _ _ c.min-available.ensures c.min-steps.ensures).2, A.window_high)

pub read_places-reading-requires-clause-end_inside : goal.read_places-reading-requires-clause-end_inside
read_places-reading-requires-clause-end_inside c =
    omega (arith, (taken (goal.at.read_places-reading-requires-clause-end_inside c).In_ok-check).inside)

pub read_places-reading-requires-clause-codes_room : goal.read_places-reading-requires-clause-codes_room
read_places-reading-requires-clause-codes_room c =
    (taken (goal.at.read_places-reading-requires-clause-codes_room c).In_ok-check).codes_long

pub read_places-reading-requires-clause-counts_room : goal.read_places-reading-requires-clause-counts_room
read_places-reading-requires-clause-counts_room c =
    (taken (goal.at.read_places-reading-requires-clause-counts_room c).In_ok-check).counts_long

pub read_places-reading-requires-clause-narrow : goal.read_places-reading-requires-clause-narrow
read_places-reading-requires-clause-narrow c =
    let x = (goal.at.read_places-reading-requires-clause-narrow c).In_ok-check in
    narrow (Q x) _ _ (taken x) _ _ c.min-available.ensures c.min-steps.ensures

pub overflow_sub-result : goal.overflow_sub-result
overflow_sub-result c =
    let x = (goal.at.overflow_sub-result c).In_ok-check in
    size_within (Q x) _ _ (taken x) _ _ c.min-available.ensures c.min-steps.ensures _ _ _ _ c.read_places-reading.result c.read_places-reading.ensures

pub gap_of-requires-clause-gain_small : goal.gap_of-requires-clause-gain_small
gap_of-requires-clause-gain_small c =
    let x = (goal.at.gap_of-requires-clause-gain_small c).In_ok-check in
    (small (Q x) _ _ (taken x) _ _ c.min-available.ensures c.min-steps.ensures _ _ _ _ c.read_places-reading.result c.read_places-reading.ensures).0

pub gap_of-requires-clause-best_gain_small : goal.gap_of-requires-clause-best_gain_small
gap_of-requires-clause-best_gain_small c =
    let x = (goal.at.gap_of-requires-clause-best_gain_small c).In_ok-check in
    (small (Q x) _ _ (taken x) _ _ c.min-available.ensures c.min-steps.ensures _ _ _ _ c.read_places-reading.result c.read_places-reading.ensures).1

pub gap_of-requires-clause-best_loss_small : goal.gap_of-requires-clause-best_loss_small
gap_of-requires-clause-best_loss_small c =
    let x = (goal.at.gap_of-requires-clause-best_loss_small c).In_ok-check in
    (small (Q x) _ _ (taken x) _ _ c.min-available.ensures c.min-steps.ensures _ _ _ _ c.read_places-reading.result c.read_places-reading.ensures).2

pub gap_of-requires-clause-steps_small : goal.gap_of-requires-clause-steps_small
gap_of-requires-clause-steps_small c =
    let x = (goal.at.gap_of-requires-clause-steps_small c).In_ok-check in
    let A = taken x in
    omega (arith, (bounds (Q x) _ _ A _ _ c.min-available.ensures c.min-steps.ensures).2, A.window_high)

pub gap_of-requires-clause-unread_small : goal.gap_of-requires-clause-unread_small
gap_of-requires-clause-unread_small c =
    let x = (goal.at.gap_of-requires-clause-unread_small c).In_ok-check in
    omega (arith, (bounds (Q x) _ _ (taken x) _ _ c.min-available.ensures c.min-steps.ensures).3)

pub gap_of-requires-clause-rise_small : goal.gap_of-requires-clause-rise_small
gap_of-requires-clause-rise_small c =
    let A = taken (goal.at.gap_of-requires-clause-rise_small c).In_ok-check in
    omega (arith, c.saturating_sub-rise.ensures, c.largest-most.ensures, A.ln_small)

pub gap_of-requires-clause-threshold_small : goal.gap_of-requires-clause-threshold_small
gap_of-requires-clause-threshold_small c = (taken (goal.at.gap_of-requires-clause-threshold_small c).In_ok-check).threshold_small

pub returns-clause-found : goal.returns-clause-found
returns-clause-found c =
    let x = (goal.at.returns-clause-found c).In_ok-check in
    found (Q x) _ _ (taken x) _ _ c.min-available.ensures c.min-steps.ensures _ _ _ _ c.read_places-reading.result c.read_places-reading.ensures
    _ _ _
    (c.saturating_sub-rise.ensures ∙ ap (λ (n : ℕ). n - c.args.request.now.scoring.threshold) c.largest-most.ensures)
    (to_z-of_z w64 _ (record { sfits = c.difference.type_inv }) ∙ c.difference.ensures)
    c.gap_of.ensures
