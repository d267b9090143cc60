use Rattle.short_sequences.proofs.Runs.{outcome_masked, outcome_refused}
use Rattle.short_sequences.proofs.run_letters.Goals as goal

pub returns-in-Ok : goal.returns-in-Ok
returns-in-Ok c = let A = c.in-Ok.ensures in outcome_masked _ A.refusal A.list c.count_letters.ensures

pub returns-in-Err : goal.returns-in-Err
returns-in-Err c = outcome_refused _ _ c.in-Err.ensures.refusal
