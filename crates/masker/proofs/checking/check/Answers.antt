use Rattle.std.proofs.Common.{◌∙◌, ap, rules}
use Rattle.longdust.specs.declared.Lent.{Lent}
use Rattle.longdust.specs.Checks.{refusal}
use Rattle.masker.proofs.First.{refused_early, refusal_is}
use Rattle.masker.proofs.checking.check.Goals as goal

pub returns-then-kmer_outside-window_above : goal.returns-then-kmer_outside-window_above
returns-then-kmer_outside-window_above c = refused_early c.args.options c.args.letters.now (search rules) _ c.check_sequence.ensures

pub returns : goal.returns
returns c = c.check.ensures ∙ ap (λ (l : Lent). refusal c.args.options c.args.letters.now l) c.listed.ensures ∙ refusal_is c.args.options c.args.letters.now
