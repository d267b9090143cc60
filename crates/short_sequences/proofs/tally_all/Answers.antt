use Rattle.std.proofs.Common.{◌≡◌, refl, ap, ◌∙◌, [], ℕ, ◌^◌, ◌<◌, arith, length, get_or}
use Rattle.short_sequences.specs.Sequences.{sequences_of}
use Rattle.short_sequences.specs.Terms.Outcome.{outcome_of}
use Rattle.short_sequences.proofs.Sequences.{few_sequences}
use Rattle.short_sequences.proofs.Tallying.{tallying_start, letters_fit, tally_fits, refused_small, tallying_turn, tallying_end}
use Rattle.short_sequences.proofs.tally_all.Goals as goal
use Rattle.short_sequences.proofs.tally_all.Goals.{After-run_index-outcome, In-loop-index}

-- An index in the loop is one of few.
below : (c : In-loop-index) → c.loop-index.index < 5 ^ length c.args.letters.now
below c = omega (arith, c.requires.sequences_value)

few : (c : In-loop-index) → c.loop-index.index < 390625
few c = omega (arith, below c, few_sequences _ c.requires.letters_len_bound)

-- What the run of the turn came to.
ran : (c : After-run_index-outcome) → c.run_index-outcome.result ≡ outcome_of (get_or (sequences_of (length c.args.letters.now)) c.loop-index.index [])
ran c = c.run_index-outcome.ensures ∙ ap (λ (n : ℕ). outcome_of (get_or (sequences_of n) c.loop-index.index [])) c.loop-index.invariant.1

pub loop-index-init : goal.loop-index-init
loop-index-init c = (tallying_start _ _ c.requires.tallies_value, refl)

pub count_outcome-refused-requires-clause-inside : goal.count_outcome-refused-requires-clause-inside
count_outcome-refused-requires-clause-inside c =
    let k = goal.at.count_outcome-refused-requires-clause-inside c in
    letters_fit _ c.loop-index.invariant.0 (below k.In-loop-index) (ran k.After-run_index-outcome)

pub count_outcome-refused-requires-clause-room : goal.count_outcome-refused-requires-clause-room
count_outcome-refused-requires-clause-room c =
    let k = goal.at.count_outcome-refused-requires-clause-room c in
    tally_fits _ c.loop-index.invariant.0 (below k.In-loop-index) (ran k.After-run_index-outcome) (few k.In-loop-index)

pub overflow_add-refused : goal.overflow_add-refused
overflow_add-refused c =
    let r = refused_small _ c.loop-index.invariant.0 (below (goal.at.overflow_add-refused c).In-loop-index) (ran (goal.at.overflow_add-refused c).After-run_index-outcome) in
    record { fits = omega (arith, few (goal.at.overflow_add-refused c).In-loop-index, c.count_outcome-refused.ensures.value) }

pub loop-index-preserved : goal.loop-index-preserved
loop-index-preserved c =
    let O = c.count_outcome-refused.ensures in
    (tallying_turn _ c.loop-index.invariant.0 (below (goal.at.loop-index-preserved c).In-loop-index) (ran (goal.at.loop-index-preserved c).After-run_index-outcome) O.tallies_after O.value, c.run_index-outcome.auto.letters ∙ c.loop-index.invariant.1)

pub returns-clause-value : goal.returns-clause-value
returns-clause-value c = (tallying_end _ c.loop-index.invariant.0 (omega (arith, c.requires.sequences_value))).0

pub returns-clause-tallies_after : goal.returns-clause-tallies_after
returns-clause-tallies_after c = (tallying_end _ c.loop-index.invariant.0 (omega (arith, c.requires.sequences_value))).1
