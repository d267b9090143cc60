use Rattle.std.proofs.Common.{ℕ, [], ◌∷◌, arith, rules, length-take-le}
use Rattle.short_sequences.proofs.Runs.{tables_filled}
use Rattle.short_sequences.proofs.Tallying.{no_tallies}
use Rattle.short_sequences.proofs.tally.Goals as goal

pub tally_all-requires-clause-filled : goal.tally_all-requires-clause-filled
tally_all-requires-clause-filled c = let F = c.fill_uniform.ensures in tables_filled _ _ _ _ (search rules) (search rules) F.ln_after F.f_after

pub tally_all-requires-clause-tallies_value : goal.tally_all-requires-clause-tallies_value
tally_all-requires-clause-tallies_value c = no_tallies _ c.args.tallies.now _ (omega (arith, c.requires.tallies_len, c.requires.m_bound, length-take-le {A = ℕ} c.args.m (0 ∷ 0 ∷ 0 ∷ 0 ∷ 0 ∷ 0 ∷ 0 ∷ 0 ∷ []) (omega arith))) (c.fill.ensures.after (λ y e. e))
