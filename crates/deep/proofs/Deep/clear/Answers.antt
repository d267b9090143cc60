use Rattle.std.proofs.Common.{ap, ◌∙◌, ℕ, replicate}
use Rattle.deep.specs.Terms.Blocks.{no_cell}
use Rattle.deep.proofs.Empty.{empty_block, held_none}
use Rattle.deep.proofs.Deep.clear.Goals as goal

pub returns : goal.returns
returns c s lo e =
    held_none _ s lo (c.fill.ensures.after (λ y h. h) ∙ ap (λ (n : ℕ). replicate n no_cell) c.requires.cells_long) (c.fill-2.ensures.after (λ y h. h) ∙ ap (λ (n : ℕ). replicate n empty_block) c.requires.blocks_long)
    c.requires.heads_long e
